-- The strips of the row that come before the next one are done.
use Rattle.std.specs.BTreeMap.{get}
use Rattle.std.specs.Ordering.{int_cmp}
use Rattle.layer_strips.proofs.Meeting.{IsAsked}
use Rattle.layer_strips.proofs.Nexts.{height}
use Rattle.layer_strips.proofs.pairs.ask.Given as goal

abbrev pub invariant-loop-next : goal.invariant-loop-next
invariant-loop-next l = IsAsked l.strips l.index (get int_cmp l.live) l.fn.pairs l.pairs l.next

abbrev pub decreases-loop-next : goal.decreases-loop-next
decreases-loop-next l = height l.next
