use Rattle.std.proofs.Common.{sym, subst, refl, slice_index, below_more}
use Rattle.std.specs.Prelude.{IsTrue}
use Rattle.std.proofs.lemmas.Bool.{false≢true}
use Rattle.rtl_check.specs.Parts.{ArgFits}
use Rattle.rtl_check.proofs.exprs.args_fit.Goals as goal

pub returns-then-not-arg_fits : goal.returns-then-not-arg_fits
returns-then-not-arg_fits c = (
  (λ h. absurd (false≢true h)),
  (λ all. subst IsTrue c.if-not-arg_fits.true (c.arg_fits.ensures.1 (all.each c.loop-k.k c.loop-k-test.true))),
)

pub loop-k-preserved : goal.loop-k-preserved
loop-k-preserved c =
    below_more (λ j. ArgFits c.args.rtl.now c.args.index c.args.words (slice_index c.args.args.now j)) c.loop-k.k
    c.loop-k.invariant (c.arg_fits.ensures.0 (subst IsTrue (sym c.if-not-arg_fits.false) refl))
