use Rattle.std.proofs.Common.{◌≡◌, ◌++◌}
use Rattle.std.specs.Prelude.{flat_map}
use Rattle.slice_joints.specs.Joining.{stub_joint}
use Rattle.std.specs.List.{range_with_len}
use Rattle.slice_joints.proofs.joints.push_lift.Given as goal

abbrev pub invariant-loop-k : goal.invariant-loop-k
invariant-loop-k l = l.lines.items
    ≡ l.initial.lines.items ++ flat_map (λ b. stub_joint l.column l.slice b) (range_with_len 1 l.k)
