use Rattle.std.proofs.Common.{◌≡◌, ◌+◌, drop}
use Rattle.mp_program.specs.Names.{index_of}
use Rattle.process_transfers.proofs.forms.index_of.Given as goal

abbrev pub invariant-loop-index : goal.invariant-loop-index
invariant-loop-index l = index_of l.defs l.name ≡ l.index + index_of (drop l.index l.defs) l.name
