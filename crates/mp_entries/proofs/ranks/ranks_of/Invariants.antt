use Rattle.mp_entries.specs.Entries.{is_expr, is_form}
use Rattle.mp_entries.proofs.Numbering.{Numbered}
use Rattle.mp_entries.proofs.ranks.ranks_of.Given as goal

abbrev pub invariant-loop-node : goal.invariant-loop-node
invariant-loop-node l = record {
  exprs : Numbered (is_expr l.classes) l.node l.expr_count l.ranks.exprs;
  forms : Numbered (is_form l.forms l.classes) l.node l.form_count l.ranks.forms;
}
