use Rattle.std.proofs.Common.{take}
use Rattle.name_meanings.specs.Keys.{HoldsNames}
use Rattle.name_meanings.proofs.table.names_of_all.Given as goal

abbrev pub invariant-loop-process : goal.invariant-loop-process
invariant-loop-process l = HoldsNames l.defs (take l.process-index l.processes) l.names
