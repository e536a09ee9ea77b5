use Rattle.std.proofs.Common.{◌++◌, take}
use Rattle.mp_limits.specs.Finding.{SeenPins, pins_before}
use Rattle.mp_limits.proofs.pins.see_pins.Given as goal

abbrev pub invariant-loop-pin : goal.invariant-loop-pin
invariant-loop-pin l = SeenPins (pins_before l.defs l.index ++ take l.pin-index l.pin-items) l.seen l.found
