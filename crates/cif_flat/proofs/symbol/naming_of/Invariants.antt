use Rattle.std.specs.Prelude.{slice_range}
use Rattle.cif_flat.proofs.Named.{NoneNamed}
use Rattle.cif_flat.proofs.symbol.naming_of.Given as goal

abbrev pub invariant-loop-index : goal.invariant-loop-index
invariant-loop-index l = NoneNamed (slice_range l.items l.first l.index)
