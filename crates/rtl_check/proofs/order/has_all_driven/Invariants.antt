use Rattle.std.proofs.Common.{◌≡◌, true}
use Rattle.rtl_form.specs.declared.rtl.Cell.{Cell}
use Rattle.rtl_form.specs.Environment.{is_driven}
use Rattle.rtl_check.specs.Reading.{HasPlace}
use Rattle.rtl_check.proofs.Each.{EachBefore}
use Rattle.rtl_check.proofs.order.has_all_driven.Given as goal

abbrev pub invariant-loop-c : goal.invariant-loop-c
invariant-loop-c l = EachBefore (λ j (x : Cell). is_driven x.kind ≡ true → HasPlace l.rtl.order j) l.cells l.c
