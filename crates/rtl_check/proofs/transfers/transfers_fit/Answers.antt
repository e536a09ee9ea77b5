use Rattle.std.proofs.Common.{ℕ, refl, sym, subst}
use Rattle.std.proofs.lemmas.Option.{slice_get-get_or}
use Rattle.rtl_form.specs.declared.rtl.Transfer.{Transfer}
use Rattle.mp_base.specs.Entries.{IsAt}
use Rattle.rtl_check.specs.Parts.{IsFitting}
use Rattle.rtl_check.proofs.Each.{each_all, each_more}
use Rattle.rtl_check.proofs.transfers.transfers_fit.Goals as goal

pub returns-then-not-transfer_fits : goal.returns-then-not-transfer_fits
returns-then-not-transfer_fits c = (
  (λ no. absurd (cc)),
  (λ all. c.if-not-transfer_fits.ensures.1
      (subst (λ ts. (k : ℕ) (t : Transfer) → IsAt ts k t → IsFitting c.args.rtl.now t)
      (sym c.as_slice-transfers.ensures) all.each c.loop-k.k _
      (slice_get-get_or c.as_slice-transfers.result.now c.loop-k.k _ c.loop-k-test.true))),
)

pub loop-k-preserved : goal.loop-k-preserved
loop-k-preserved c =
    each_more (λ j (t : Transfer). IsFitting c.args.rtl.now t) c.as_slice-transfers.result.now c.loop-k.k _
    (c.transfer_fits.ensures.0 c.if-not-transfer_fits.false) c.loop-k.invariant

pub returns : goal.returns
returns c = (
  (λ _. record {
    each = subst (λ ts. (k : ℕ) (t : Transfer) → IsAt ts k t → IsFitting c.args.rtl.now t)
        c.as_slice-transfers.ensures
        (each_all (λ j (t : Transfer). IsFitting c.args.rtl.now t) c.as_slice-transfers.result.now c.loop-k.k
        c.loop-k-test.false c.loop-k.invariant);
  }),
  (λ all. refl),
)
