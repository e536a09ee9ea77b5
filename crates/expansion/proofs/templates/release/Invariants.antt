use Rattle.expansion.specs.Templates.{Forgets}
use Rattle.expansion.proofs.templates.release.Given as goal

abbrev pub invariant-loop : goal.invariant-loop
invariant-loop l = Forgets l.fn.slots l.slots
