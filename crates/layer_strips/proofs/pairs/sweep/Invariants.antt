-- What is known before each event.
use Rattle.std.specs.BTreeMap.{get}
use Rattle.std.specs.Ordering.{int_cmp}
use Rattle.layer_strips.specs.Sweep.{Grows, IsSwept}
use Rattle.layer_strips.proofs.pairs.sweep.Given as goal

abbrev pub invariant-loop-event : goal.invariant-loop-event
invariant-loop-event l =
    IsSwept l.fn.layer l.fn.part l.strips l.event-items l.event-index (get int_cmp l.live) l.pairs
    × Grows l.strips l.fn.pairs l.pairs
