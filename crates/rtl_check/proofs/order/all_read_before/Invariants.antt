use Rattle.rtl_form.specs.declared.rtl.Transfer.{Transfer}
use Rattle.rtl_check.specs.Reading.{ReadsBefore}
use Rattle.rtl_check.proofs.Each.{EachBefore}
use Rattle.rtl_check.proofs.order.all_read_before.Given as goal

abbrev pub invariant-loop-k : goal.invariant-loop-k
invariant-loop-k l = EachBefore (λ j (t : Transfer). ReadsBefore l.rtl t) l.transfers l.k
