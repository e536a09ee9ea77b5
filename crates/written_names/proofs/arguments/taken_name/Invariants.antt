use Rattle.mp_rules.specs.Breaking.{IsEarliest}
use Rattle.written_names.proofs.EarliestIndices.{AtFirst}
use Rattle.written_names.proofs.TakenNames.{TakenAt}
use Rattle.written_names.proofs.arguments.taken_name.Given as goal

abbrev pub invariant-loop-def : goal.invariant-loop-def
invariant-loop-def l = IsEarliest (AtFirst (TakenAt l.program l.names) l.def-index) l.found
