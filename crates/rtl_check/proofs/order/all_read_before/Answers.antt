use Rattle.std.proofs.Common.{ℕ, refl, subst}
use Rattle.rtl_form.specs.declared.rtl.Transfer.{Transfer}
use Rattle.mp_base.specs.Entries.{IsAt}
use Rattle.rtl_check.specs.Reading.{ReadsBefore}
use Rattle.rtl_check.proofs.Each.{each_all, each_more}
use Rattle.rtl_check.proofs.order.all_read_before.Goals as goal

pub loop-k-preserved : goal.loop-k-preserved
loop-k-preserved c =
    each_more (λ j (t : Transfer). ReadsBefore c.args.rtl.now t) c.as_slice-transfers.result.now c.loop-k.k _
    (c.reads_before.ensures.0 c.if-not-reads_before.false) c.loop-k.invariant

pub returns : goal.returns
returns c = (
  (λ _. record {
    each = subst (λ ts. (k : ℕ) (t : Transfer) → IsAt ts k t → ReadsBefore c.args.rtl.now t)
        c.as_slice-transfers.ensures
        (each_all (λ j (t : Transfer). ReadsBefore c.args.rtl.now t) c.as_slice-transfers.result.now c.loop-k.k
        c.loop-k-test.false c.loop-k.invariant);
  }),
  (λ all. refl),
)
