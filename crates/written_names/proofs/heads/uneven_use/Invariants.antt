use Rattle.mp_rules.specs.Breaking.{IsEarliest}
use Rattle.written_names.specs.Uneven.{IsUnevenAt}
use Rattle.written_names.proofs.EarliestIndices.{AtFirst}
use Rattle.written_names.proofs.heads.uneven_use.Given as goal

abbrev pub invariant-loop-e : goal.invariant-loop-e
invariant-loop-e l = IsEarliest (AtFirst (IsUnevenAt l.program) l.e) l.found
