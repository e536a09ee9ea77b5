use Rattle.std.proofs.Common.{take}
use Rattle.clock_run.proofs.Naming.{Number}
use Rattle.clock_run.proofs.numbers.names_of.Given as goal

abbrev pub invariant-loop-name : goal.invariant-loop-name
invariant-loop-name l = Number (take l.name-index l.names) l.numbers
