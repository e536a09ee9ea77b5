use Rattle.mp_order.specs.Tables.{Lifted}
use Rattle.mp_order.proofs.Branches.{Highest, GivesBelow}
use Rattle.mp_order.proofs.demands.mark_branches.Given as goal

abbrev pub invariant-loop-branch : goal.invariant-loop-branch
invariant-loop-branch l = Highest l.tops l.branches l.mark l.branch-index l.high
    × Lifted (GivesBelow l.tops l.branches l.mark l.branch-index) l.initial.marks l.marks
