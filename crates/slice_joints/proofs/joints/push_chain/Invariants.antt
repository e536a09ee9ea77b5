use Rattle.std.proofs.Common.{◌≡◌, ◌++◌}
use Rattle.std.specs.Prelude.{map}
use Rattle.slice_form.specs.Whole.{path_of}
use Rattle.slice_form.specs.PathWires.{chain_line}
use Rattle.slice_form.specs.Slices.{across_of}
use Rattle.std.specs.List.{range_with_len}
use Rattle.slice_joints.proofs.joints.push_chain.Given as goal

abbrev pub invariant-loop-gap : goal.invariant-loop-gap
invariant-loop-gap l = l.lines.items
    ≡ l.fn.lines.items ++ map (λ g. across_of (path_of l.path) (chain_line l.i g)) (range_with_len 0 l.gap)
