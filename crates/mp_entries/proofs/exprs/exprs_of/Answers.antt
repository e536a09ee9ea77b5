use Rattle.std.proofs.Common.{◌≡◌, ◌<◌, ◌++◌, ◌∷◌, [], ℕ, None, length, sym, ◌∙◌, ap, map, arith}
use Rattle.std.proofs.Common.{slice_index, slice_index_or}
use Rattle.std.proofs.lemmas.List.{get_or_read}
use Rattle.mp_written.specs.declared.program.Expr.{Expr}
use Rattle.mp_entries.specs.Entries.{expr_at, is_expr, nodes_below, stands_for_expr}
use Rattle.mp_entries.proofs.Numbering.{entries_with, entries_without}
use Rattle.mp_entries.proofs.exprs.exprs_of.Goals.{then-is_expr+in_ok-expr_of+in_ok-push, else-is_expr}
use Rattle.mp_entries.proofs.exprs.exprs_of.Goals as goal

pub loop-node-preserved : goal.loop-node-preserved
loop-node-preserved c =
    let n = c.loop-node.node in
    let cs = c.args.classes.now in
    let lt : n < length cs = omega arith in
    let read : c.at.result.now ≡ slice_index_or cs n None = get_or_read cs n c.at.result.now lt c.at.ensures None in
    let test : c.is_expr.result ≡ is_expr cs n = c.is_expr.ensures ∙ ap stands_for_expr read in
    let entry : ℕ → Expr = expr_at c.args.forms.now (slice_index c.args.ranks.now) in
    elim c.if-is_expr.branch [
      | then-is_expr+in_ok-expr_of+in_ok-push w ↦
          w.exprs-is ∙ w.in_ok-push.ensures.ok ∙ ap (λ xs. xs ++ w.in_ok-expr_of.field-0 ∷ []) c.loop-node.invariant
          ∙ ap (λ x. map entry (nodes_below (is_expr cs) n) ++ x ∷ []) w.in_ok-expr_of.ensures
          ∙ sym (entries_with entry (is_expr cs) n (sym test ∙ w.if-is_expr.true))
      | else-is_expr w ↦ w.exprs-is ∙ c.loop-node.invariant
          ∙ sym (entries_without entry (is_expr cs) n (sym test ∙ w.if-is_expr.false))
    ]
