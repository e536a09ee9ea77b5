use Rattle.std.proofs.Common.{◌≡◌, Some}
use Rattle.mp_transfers.proofs.Earliest.{Upto}
use Rattle.mp_transfers.proofs.Astray.{StraysAt}
use Rattle.mp_transfers.proofs.unknown.astray_in.Given as goal

abbrev pub invariant-loop-f : goal.invariant-loop-f
invariant-loop-f l =
    Upto (λ at. l.fn.found ≡ Some at) l.program.forms (StraysAt l.fn.span l.marks l.number l.labels) l.f l.found
