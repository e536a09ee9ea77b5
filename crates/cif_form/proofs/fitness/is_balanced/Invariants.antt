use Rattle.std.proofs.Common.{◌↔◌, ◌≤◌, drop}
use Rattle.cif_form.specs.Text.{IsBalanced}
use Rattle.cif_form.proofs.fitness.is_balanced.Given as goal

-- what is left is balanced with the open parentheses where the whole is
abbrev pub invariant-loop-i : goal.invariant-loop-i
invariant-loop-i l = record {
  shallow : l.depth ≤ l.i;
  same : IsBalanced l.depth (drop l.i l.text) ↔ IsBalanced 0 l.text;
}
