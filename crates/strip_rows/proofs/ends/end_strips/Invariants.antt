use Rattle.strip_rows.proofs.ends.end_strips.Given as goal
use Rattle.strip_rows.specs.Steps.{AreEnded}

abbrev pub invariant-loop-run : goal.invariant-loop-run
invariant-loop-run l = AreEnded l.numbers l.lost l.run-index l.row l.fn.strips.items l.strips.items
