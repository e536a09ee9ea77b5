use Rattle.strip_rows.proofs.ends.begin_strips.Given as goal
use Rattle.strip_rows.specs.Steps.{HaveBegun}

abbrev pub invariant-loop-run : goal.invariant-loop-run
invariant-loop-run l =
    HaveBegun l.fresh l.run-index l.row l.fn.strips.items l.strips.items l.fn.numbers.items l.numbers.items
