use Rattle.std.proofs.Common.{sym, subst, refl, below_more}
use Rattle.std.specs.Prelude.{IsTrue}
use Rattle.std.proofs.lemmas.Bool.{false≢true}
use Rattle.rtl_form.specs.declared.rtl.CellKind.TheVariants.{Input}
use Rattle.rtl_check.specs.Parts.{HasOne}
use Rattle.rtl_check.proofs.pads.have_inputs.Goals as goal

pub returns-then-not-has_input : goal.returns-then-not-has_input
returns-then-not-has_input c = (
  (λ h. absurd (false≢true h)),
  (λ all.
      let one = all.each c.loop-pad.pad c.loop-pad-test.true in
      subst IsTrue c.if-not-has_input.true (c.has_input.ensures.1 one)),
)

pub loop-pad-preserved : goal.loop-pad-preserved
loop-pad-preserved c =
    below_more (λ k. HasOne c.args.cells.now (Input k)) c.loop-pad.pad c.loop-pad.invariant
    (c.has_input.ensures.0 (subst IsTrue (sym c.if-not-has_input.false) refl))
