use Rattle.strip_rows.proofs.missing.missing.Given as goal
use Rattle.strip_rows.proofs.Merging.{IsMissingUpto}

abbrev pub invariant-loop-run : goal.invariant-loop-run
invariant-loop-run l = IsMissingUpto l.runs l.among l.run-index l.place l.out.items
