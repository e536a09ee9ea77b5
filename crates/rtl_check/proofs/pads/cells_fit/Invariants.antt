use Rattle.rtl_form.specs.declared.rtl.Cell.{Cell}
use Rattle.rtl_form.specs.Sound.{CellFits}
use Rattle.rtl_check.proofs.Each.{EachBefore}
use Rattle.rtl_check.proofs.pads.cells_fit.Given as goal

abbrev pub invariant-loop-c : goal.invariant-loop-c
invariant-loop-c l = EachBefore (λ j (x : Cell). CellFits l.rtl x x.kind) l.cells l.c
