use Rattle.strip_rows.proofs.pairs.pair_beside.Given as goal
use Rattle.strip_rows.specs.Steps.{AreBeside}

abbrev pub invariant-loop-i : goal.invariant-loop-i
invariant-loop-i l = AreBeside l.numbers l.first l.runs l.i l.fn.pairs.items l.pairs.items
