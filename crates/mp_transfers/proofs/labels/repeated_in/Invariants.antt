use Rattle.std.proofs.Common.{◌≡◌, Some}
use Rattle.mp_transfers.proofs.Naming.{Told}
use Rattle.mp_transfers.proofs.labels.repeated_in.Given as goal

abbrev pub invariant-loop-label : goal.invariant-loop-label
invariant-loop-label l = Told (λ at. l.fn.found ≡ Some at) l.names l.labels l.label-index l.found
