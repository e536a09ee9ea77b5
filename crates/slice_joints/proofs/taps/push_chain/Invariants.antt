use Rattle.std.proofs.Common.{◌≡◌, ◌++◌}
use Rattle.std.specs.Prelude.{flat_map, slice_index}
use Rattle.slice_layout.specs.Links.{carry_by}
use Rattle.slice_joints.specs.Tapping.{link_marks}
use Rattle.std.specs.List.{range_with_len}
use Rattle.slice_joints.proofs.taps.push_chain.Given as goal

abbrev pub invariant-loop-k : goal.invariant-loop-k
invariant-loop-k l = l.marks.items
    ≡ l.initial.marks.items ++ flat_map (link_marks (slice_index l.tracks.row) (carry_by l.link) l.column)
    (range_with_len 0 l.k)
