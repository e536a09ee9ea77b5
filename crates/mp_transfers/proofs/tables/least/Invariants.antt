use Rattle.std.proofs.Common.{◌≡◌, Some}
use Rattle.mp_transfers.specs.Tables.{entry}
use Rattle.mp_transfers.proofs.Earliest.{Upto}
use Rattle.mp_transfers.proofs.tables.least.Given as goal

abbrev pub invariant-loop-form : goal.invariant-loop-form
invariant-loop-form l =
    Upto (λ at. l.fn.found ≡ Some at) l.forms (λ k f at. entry l.table f ≡ Some at) l.form-index l.found
