use Rattle.std.proofs.Common.{◌≡◌, ◌++◌}
use Rattle.std.specs.Prelude.{flat_map, slice_get}
use Rattle.slice_form.specs.Whole.{path_of}
use Rattle.slice_layout.specs.Pins.{chain_pin}
use Rattle.std.specs.List.{range_with_len}
use Rattle.slice_layout.proofs.pins.push_chains.Given as goal

abbrev pub invariant-loop-i : goal.invariant-loop-i
invariant-loop-i l = l.pins.items
    ≡ l.fn.pins.items ++ flat_map (λ i. chain_pin (slice_get (path_of l.path).chains i)) (range_with_len 0 l.i)
