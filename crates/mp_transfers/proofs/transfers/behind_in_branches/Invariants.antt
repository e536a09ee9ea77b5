use Rattle.std.proofs.Common.{◌≡◌, Some}
use Rattle.mp_transfers.specs.Tables.{IsBehind}
use Rattle.mp_transfers.proofs.Earliest.{Upto}
use Rattle.mp_transfers.proofs.transfers.behind_in_branches.Given as goal

abbrev pub invariant-loop-branch : goal.invariant-loop-branch
invariant-loop-branch l =
    Upto (λ at. l.fn.found ≡ Some at) l.branches (λ k b at. IsBehind l.table b.body at) l.branch-index l.found
