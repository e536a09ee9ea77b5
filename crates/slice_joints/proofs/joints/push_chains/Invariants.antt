use Rattle.std.proofs.Common.{◌≡◌, ◌++◌}
use Rattle.std.specs.Prelude.{flat_map, map}
use Rattle.slice_form.specs.Whole.{path_of}
use Rattle.slice_form.specs.PathLists.{bands_of}
use Rattle.slice_form.specs.PathWires.{chain_line}
use Rattle.slice_form.specs.Slices.{across_of}
use Rattle.std.specs.List.{range_with_len}
use Rattle.slice_joints.proofs.joints.push_chains.Given as goal

abbrev pub invariant-loop-i : goal.invariant-loop-i
invariant-loop-i l = l.lines.items
    ≡ l.fn.lines.items ++ flat_map (λ i. map
    (λ g. across_of (path_of l.path) (chain_line i g)) (bands_of (path_of l.path))) (range_with_len 0 l.i)
