use Rattle.std.proofs.Common.{sym, subst, refl, below_more}
use Rattle.std.specs.Prelude.{IsTrue}
use Rattle.std.proofs.lemmas.Bool.{false≢true}
use Rattle.rtl_form.specs.declared.rtl.CellKind.TheVariants.{Output}
use Rattle.rtl_check.specs.Parts.{HasOne}
use Rattle.rtl_check.proofs.pads.have_outputs.Goals as goal

pub returns-then-not-has_output : goal.returns-then-not-has_output
returns-then-not-has_output c = (
  (λ h. absurd (false≢true h)),
  (λ all.
      let one = all.each c.loop-pad.pad c.loop-pad-test.true in
      subst IsTrue c.if-not-has_output.true (c.has_output.ensures.1 one)),
)

pub loop-pad-preserved : goal.loop-pad-preserved
loop-pad-preserved c =
    below_more (λ k. HasOne c.args.cells.now (Output k)) c.loop-pad.pad c.loop-pad.invariant
    (c.has_output.ensures.0 (subst IsTrue (sym c.if-not-has_output.false) refl))
