use Rattle.rtl_form.specs.Sound.{ExprFits}
use Rattle.rtl_check.proofs.Each.{EachBefore}
use Rattle.rtl_check.proofs.exprs.exprs_fit.Given as goal

abbrev pub invariant-loop-index : goal.invariant-loop-index
invariant-loop-index l = EachBefore (ExprFits l.rtl) l.exprs l.index
