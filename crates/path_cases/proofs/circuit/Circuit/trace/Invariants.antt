use Rattle.std.proofs.Common.{◌≡◌, length}
use Rattle.path_cases.proofs.circuit.Circuit.trace.Given as goal

abbrev pub invariant-loop-words : goal.invariant-loop-words
invariant-loop-words l = length l.trace ≡ l.words-index
