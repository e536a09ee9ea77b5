use Rattle.std.proofs.Common.{◌≡◌, ◌⊎◌, List, Some, length, arith, ap, subst}
use Rattle.mp_program.specs.declared.program.Label.{Label}
use Rattle.mp_program.specs.declared.program.Process.{Process}
use Rattle.mp_base.specs.Entries.{IsAt}
use Rattle.mp_base.proofs.Entries.{entry}
use Rattle.mp_rules.specs.Breaking.{IsEarliest}
use Rattle.mp_transfers.specs.Labels.{IsRepeated}
use Rattle.mp_transfers.proofs.Earliest.{upto_then, upto_all}
use Rattle.mp_transfers.proofs.Naming.{repeated_broken}
use Rattle.mp_transfers.proofs.labels.repeated_label.Goals as goal

pub loop-process-preserved : goal.loop-process-preserved
loop-process-preserved c =
    let q : Process = c.process-item.result in
    let P : List Process → Type 0 = λ xs. IsAt xs c.loop-process.process-index q in
    let Q : List Label
    → Type 0 = λ xs. IsEarliest (λ at. (c.loop-process.found ≡ Some at) ⊎ IsRepeated xs at) c.in_ok-found.found in
    upto_then c.loop-process.invariant q
    (subst P c.as_slice-process-items.ensures
    (entry c.as_slice-process-items.result.now c.loop-process.process-index (omega arith) c.process-item.is))
    c.in_ok-found.found
    (subst Q c.as_slice.ensures c.in_ok-found.ensures)

pub returns : goal.returns
returns c =
    repeated_broken c.args.program.now c.loop-process.found
    (upto_all c.loop-process.invariant (omega (arith, ap length c.as_slice-process-items.ensures)))
