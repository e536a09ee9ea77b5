-- The events of the strips so far.
use Rattle.layer_strips.specs.Sweep.{AreEvents}
use Rattle.layer_strips.proofs.event.schedule.Given as goal

abbrev pub invariant-loop-index : goal.invariant-loop-index
invariant-loop-index l = AreEvents l.layer l.part l.strips l.index l.events
