use Rattle.std.proofs.Common.{◌≡◌, ◌++◌}
use Rattle.std.specs.Prelude.{flat_map, slice_get}
use Rattle.slice_form.specs.Whole.{path_of}
use Rattle.slice_joints.specs.Control.{cast_tap}
use Rattle.std.specs.List.{range_with_len}
use Rattle.slice_joints.proofs.control.push_casts.Given as goal

abbrev pub invariant-loop-i : goal.invariant-loop-i
invariant-loop-i l = l.taps ≡ l.fn.taps
    ++ flat_map (λ i. cast_tap i (slice_get (path_of l.path).casts i)) (range_with_len 0 l.i)
