use Rattle.std.proofs.Common.{◌≡◌, ◌++◌}
use Rattle.std.specs.Prelude.{flat_map, slice_index}
use Rattle.slice_joints.specs.Tapping.{stub_tap}
use Rattle.std.specs.List.{range_with_len}
use Rattle.slice_joints.proofs.taps.push_lift.Given as goal

abbrev pub invariant-loop-k : goal.invariant-loop-k
invariant-loop-k l = l.marks.items
    ≡ l.initial.marks.items ++ flat_map
    (λ b. stub_tap (slice_index l.tracks.row) l.lift.from.0 l.lift.slice l.column b) (range_with_len 1 l.k)
