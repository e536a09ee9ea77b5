use Rattle.std.proofs.Common.{◌≡◌, ◌⊎◌, ◌+◌, ◌<◌, ◌≤◌, List, ℕ, Some, length, arith, ap, subst, slice_index}
use Rattle.mp_program.specs.declared.program.Form.{Form}
use Rattle.mp_program.specs.declared.program.Label.{Label}
use Rattle.mp_program.specs.declared.program.Process.{Process}
use Rattle.mp_base.specs.Entries.{IsAt}
use Rattle.mp_base.proofs.Entries.{entry}
use Rattle.mp_rules.specs.Breaking.{IsEarliest}
use Rattle.mp_transfers.specs.Labels.{IsAstray}
use Rattle.mp_transfers.specs.Marks.{AreMarked}
use Rattle.mp_transfers.proofs.Earliest.{upto_then, upto_all}
use Rattle.mp_transfers.proofs.Astray.{unknown_in, unknown_broken}
use Rattle.mp_transfers.proofs.unknown.unknown_label.Goals as goal

pub loop-k-preserved : goal.loop-k-preserved
loop-k-preserved c =
    let k : ℕ = c.loop-k.k in
    let q : Process = c.process-item.result in
    let P : List Process → Type 0 = λ xs. IsAt xs k q in
    let M : List ℕ → Type 0 = λ xs. AreMarked c.args.program.now xs (k + 1) c.mark-span.new.marks c.mark-span.result in
    let Q : List ℕ → List Label
    → Type 0 = λ ms ls. IsEarliest
    (λ at. (c.loop-k.found ≡ Some at)
    ⊎ ((f : ℕ) × (y : Form) × (c.mark-span.result.from ≤ f) × (f < c.mark-span.result.end) × (slice_index ms f ≡ k + 1)
    × IsAt c.args.program.now.forms f y × IsAstray ls y.kind × (at ≡ y.place))) c.astray_in-found.result in
    let R : List Label → Type 0 = Q c.mark-span.new.marks in
    let S : List ℕ → Type 0 = λ ms. Q ms c.as_slice-labels.result.now in
    record {
      size = c.mark-span.ensures.size;
      fresh = c.mark-span.ensures.greatest;
      upto = upto_then c.loop-k.invariant.upto q
          (subst P c.as_slice-process-items.ensures
          (entry c.as_slice-process-items.result.now k (omega arith) c.process-item.is))
          c.astray_in-found.result
          (unknown_in c.args.program.now q c.mark-span.result c.mark-span.new.marks (k + 1)
          (λ at. c.loop-k.found ≡ Some at) c.astray_in-found.result
          (subst M c.as_slice.ensures c.mark-span.ensures)
          (subst R c.as_slice-labels.ensures (subst S c.as_slice-in-loop-k.ensures c.astray_in-found.ensures)));
    }

pub returns : goal.returns
returns c =
    unknown_broken c.args.program.now c.loop-k.found
    (upto_all c.loop-k.invariant.upto (omega (arith, ap length c.as_slice-process-items.ensures)))
