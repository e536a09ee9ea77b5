use Rattle.written_names.proofs.TakenNames.{IsTakenFirst}
use Rattle.written_names.proofs.arguments.taken_argument.Given as goal

abbrev pub invariant-loop-number : goal.invariant-loop-number
invariant-loop-number l = IsTakenFirst l.names l.args l.number l.before l.found
