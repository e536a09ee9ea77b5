use Rattle.mp_limits.specs.Finding.{SeenPins, pins_before}
use Rattle.mp_limits.proofs.pins.repeated_pin.Given as goal

abbrev pub invariant-loop-index : goal.invariant-loop-index
invariant-loop-index l = SeenPins (pins_before l.defs l.index) l.seen l.found
