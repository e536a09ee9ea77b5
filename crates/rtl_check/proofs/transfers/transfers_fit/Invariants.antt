use Rattle.rtl_form.specs.declared.rtl.Transfer.{Transfer}
use Rattle.rtl_check.specs.Parts.{IsFitting}
use Rattle.rtl_check.proofs.Each.{EachBefore}
use Rattle.rtl_check.proofs.transfers.transfers_fit.Given as goal

abbrev pub invariant-loop-k : goal.invariant-loop-k
invariant-loop-k l = EachBefore (λ j (t : Transfer). IsFitting l.rtl t) l.transfers l.k
