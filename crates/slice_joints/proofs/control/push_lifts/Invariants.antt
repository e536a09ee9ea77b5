use Rattle.std.proofs.Common.{◌≡◌, ◌++◌}
use Rattle.std.specs.Prelude.{flat_map, slice_get}
use Rattle.slice_form.specs.Whole.{path_of}
use Rattle.slice_joints.specs.Control.{lift_tap}
use Rattle.std.specs.List.{range_with_len}
use Rattle.slice_joints.proofs.control.push_lifts.Given as goal

abbrev pub invariant-loop-i : goal.invariant-loop-i
invariant-loop-i l = l.taps ≡ l.fn.taps
    ++ flat_map (λ i. lift_tap (path_of l.path) i (slice_get (path_of l.path).lifts i)) (range_with_len 0 l.i)
