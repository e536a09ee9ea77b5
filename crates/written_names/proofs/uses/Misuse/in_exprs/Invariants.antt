use Rattle.mp_rules.specs.Breaking.{IsEarliest}
use Rattle.written_names.specs.Misuse.{MisusesAt}
use Rattle.written_names.proofs.EarliestIndices.{AtFirst}
use Rattle.written_names.proofs.uses.Misuse.in_exprs.Given as goal

abbrev pub invariant-loop-e : goal.invariant-loop-e
invariant-loop-e l = IsEarliest (AtFirst (MisusesAt l.self l.program) l.e) l.found
