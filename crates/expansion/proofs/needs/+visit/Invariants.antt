use Rattle.std.proofs.Common.{length, ◌-◌}
use Rattle.expansion.proofs.needs.+visit.Given as goal

abbrev pub decreases-visit : goal.decreases-visit
decreases-visit l = length l.program.now.exprs - l.expr
