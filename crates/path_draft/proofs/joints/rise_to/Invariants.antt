use Rattle.std.proofs.Common.{drop}
use Rattle.path_order.specs.Marked.{RiseTo}
use Rattle.path_order.specs.Order.{start}
use Rattle.path_draft.proofs.joints.rise_to.Given as goal

abbrev pub invariant-loop-to : goal.invariant-loop-to
invariant-loop-to l = RiseTo l.end l.from (drop l.to-index l.marks) → RiseTo l.end start l.marks
