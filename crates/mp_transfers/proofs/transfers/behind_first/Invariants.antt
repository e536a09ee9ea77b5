use Rattle.std.proofs.Common.{◌≡◌, Some}
use Rattle.mp_transfers.proofs.Entries.{Run}
use Rattle.mp_transfers.proofs.transfers.behind_first.Given as goal

abbrev pub invariant-loop-form : goal.invariant-loop-form
invariant-loop-form l = Run (λ at. l.fn.found ≡ Some at) l.table l.forms l.form-index l.begun l.found
