use Rattle.std.proofs.Common.{◌≡◌, ◌++◌}
use Rattle.std.specs.Prelude.{map}
use Rattle.slice_form.specs.Whole.{path_of}
use Rattle.slice_form.specs.PathWires.{cast_line}
use Rattle.slice_form.specs.Slices.{across_of}
use Rattle.std.specs.List.{range_with_len}
use Rattle.slice_joints.proofs.joints.push_casts.Given as goal

abbrev pub invariant-loop-i : goal.invariant-loop-i
invariant-loop-i l = l.lines.items
    ≡ l.fn.lines.items ++ map (λ i. across_of (path_of l.path) (cast_line i)) (range_with_len 0 l.i)
