use Rattle.std.proofs.Common.{◌≡◌, ◌⊎◌, List, ℕ, Some, length, arith, ap, subst}
use Rattle.mp_program.specs.declared.program.Process.{Process}
use Rattle.mp_base.specs.Entries.{IsAt}
use Rattle.mp_base.proofs.Entries.{entry}
use Rattle.mp_rules.specs.Breaking.{IsEarliest}
use Rattle.mp_transfers.specs.Tables.{IsAmong}
use Rattle.mp_transfers.proofs.Earliest.{upto_then, upto_all}
use Rattle.mp_transfers.proofs.Broken.{second_broken}
use Rattle.mp_transfers.proofs.transfers.second_transfer.Goals as goal

pub loop-process-preserved : goal.loop-process-preserved
loop-process-preserved c =
    let i : ℕ = c.loop-process.process-index in
    let q : Process = c.process-item.result in
    let P : List Process → Type 0 = λ xs. IsAt xs i q in
    let Q : List ℕ
    → Type 0 = λ xs. IsEarliest
    (λ at. (c.loop-process.found ≡ Some at) ⊎ IsAmong c.in_ok-seconds.seconds xs at) c.least-found.result in
    upto_then c.loop-process.invariant q
    (subst P c.as_slice-process-items.ensures
    (entry c.as_slice-process-items.result.now i (omega arith) c.process-item.is))
    c.least-found.result
    (subst Q c.as_slice.ensures c.least-found.ensures)

pub returns : goal.returns
returns c =
    second_broken c.args.program.now c.in_ok-seconds.seconds c.loop-process.found c.sound.ensures
    c.in_ok-seconds.ensures
    (upto_all c.loop-process.invariant (omega (arith, ap length c.as_slice-process-items.ensures)))
