use Rattle.cif_reader.proofs.Runs.{NameSoFar}
use Rattle.cif_reader.proofs.words.name_end.Given as goal

abbrev pub invariant-loop-end : goal.invariant-loop-end
invariant-loop-end l = NameSoFar l.bytes l.fn.at l.end
