use Rattle.std.proofs.Common.{[], take}
use Rattle.name_meanings.specs.Keys.{HoldsNames}
use Rattle.name_meanings.proofs.table.names_of_defs.Given as goal

abbrev pub invariant-loop-index : goal.invariant-loop-index
invariant-loop-index l = HoldsNames (take l.index l.defs) [] l.names
