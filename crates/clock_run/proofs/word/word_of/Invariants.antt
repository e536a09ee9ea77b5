use Rattle.switch_net.specs.Values.{value_at}
use Rattle.clock_run.proofs.Trits.{IsWordOf}
use Rattle.clock_run.proofs.word.word_of.Given as goal

abbrev pub invariant-loop-k : goal.invariant-loop-k
invariant-loop-k l = IsWordOf (value_at l.values) l.nodes l.k l.word.0 l.word.1.0
