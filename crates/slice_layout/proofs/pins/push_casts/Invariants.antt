use Rattle.std.proofs.Common.{◌≡◌, ◌++◌}
use Rattle.std.specs.Prelude.{flat_map, slice_get}
use Rattle.slice_form.specs.Whole.{path_of}
use Rattle.slice_layout.specs.Pins.{cast_pin}
use Rattle.std.specs.List.{range_with_len}
use Rattle.slice_layout.proofs.pins.push_casts.Given as goal

abbrev pub invariant-loop-i : goal.invariant-loop-i
invariant-loop-i l = l.pins.items
    ≡ l.fn.pins.items ++ flat_map (λ i. cast_pin i (slice_get (path_of l.path).casts i)) (range_with_len 0 l.i)
