use Rattle.std.proofs.Common.{vec_len}
use Rattle.evaluation_guesses.proofs.hint.Walk.close.Given as goal

abbrev pub decreases-loop-node : goal.decreases-loop-node
decreases-loop-node l = vec_len l.self.stack
