use Rattle.std.proofs.Common.{◌≡◌, ◌++◌}
use Rattle.std.specs.Prelude.{flat_map, slice_get}
use Rattle.slice_form.specs.Whole.{path_of}
use Rattle.slice_layout.specs.Pins.{lift_pin}
use Rattle.std.specs.List.{range_with_len}
use Rattle.slice_layout.proofs.pins.push_lifts.Given as goal

abbrev pub invariant-loop-i : goal.invariant-loop-i
invariant-loop-i l = l.pins.items
    ≡ l.fn.pins.items ++ flat_map (λ i. lift_pin (path_of l.path) i (slice_get (path_of l.path).lifts i))
    (range_with_len 0 l.i)
