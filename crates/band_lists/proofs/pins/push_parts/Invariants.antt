use Rattle.std.proofs.Common.{◌≡◌, ◌++◌, length}
use Rattle.std.specs.Prelude.{flat_map, slice_get}
use Rattle.std.specs.List.{range_with_len}
use Rattle.band_lists.specs.Pins.{part_pins}
use Rattle.band_lists.proofs.pins.push_parts.Given as goal

abbrev pub invariant-loop-n : goal.invariant-loop-n
invariant-loop-n l =
    l.pins.items ≡ l.fn.pins.items ++ flat_map (λ n. part_pins (length l.net) n (slice_get l.net n))
    (range_with_len 0 l.n)
