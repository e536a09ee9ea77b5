use Rattle.std.proofs.Common.{◌≡◌, ◌++◌, take}
use Rattle.band_lists.specs.Pins.{gate_pins}
use Rattle.band_lists.proofs.pins.push_gate.Given as goal

abbrev pub invariant-loop-input : goal.invariant-loop-input
invariant-loop-input l = l.pins.items ≡ l.fn.pins.items ++ gate_pins l.n (take l.input-index l.inputs)
