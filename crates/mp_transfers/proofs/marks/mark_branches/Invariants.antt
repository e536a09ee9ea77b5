use Rattle.std.proofs.Common.{take}
use Rattle.std.specs.List.{flat_map}
use Rattle.mp_program.specs.declared.program.Branch.{Branch}
use Rattle.mp_transfers.specs.Marks.{IsMarking}
use Rattle.mp_transfers.proofs.marks.mark_branches.Given as goal

abbrev pub invariant-loop-branch : goal.invariant-loop-branch
invariant-loop-branch l =
    IsMarking
    (flat_map (λ (b : Branch). b.body) (take l.branch-index l.branches)) l.number l.end l.initial.marks l.marks l.next
