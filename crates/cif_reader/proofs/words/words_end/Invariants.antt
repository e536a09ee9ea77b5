use Rattle.cif_reader.proofs.Runs.{WordsSoFar}
use Rattle.cif_reader.proofs.words.words_end.Given as goal

abbrev pub invariant-loop-end : goal.invariant-loop-end
invariant-loop-end l = WordsSoFar l.bytes l.fn.at l.end
