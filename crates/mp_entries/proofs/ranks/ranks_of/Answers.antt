use Rattle.std.proofs.Common.{◌≡◌, ◌+◌, ◌<◌, ℕ, List, None, length, sym, ◌∙◌, ap, arith}
use Rattle.std.proofs.Common.{slice_index_or}
use Rattle.std.proofs.lemmas.List.{get_or_read}
use Rattle.form_reader.specs.Sound.{kind_at}
use Rattle.mp_entries.specs.Entries.{is_expr, is_form, stands_for_expr, stands_for_form}
use Rattle.mp_entries.proofs.Numbering.{Numbered, numbered_with, numbered_without}
use Rattle.mp_entries.proofs.ranks.ranks_of.Goals.{then-is_expr, else-is_expr, then-is_form, else-is_form}
use Rattle.mp_entries.proofs.ranks.ranks_of.Goals as goal

pub loop-node-preserved : goal.loop-node-preserved
loop-node-preserved c =
    let n = c.loop-node.node in
    let cs = c.args.classes.now in
    let lt : n < length cs = omega arith in
    let read : c.at-class.result.now ≡ slice_index_or cs n None =
    get_or_read cs n c.at-class.result.now lt c.at-class.ensures None in
    let expr : c.is_expr.result ≡ is_expr cs n = c.is_expr.ensures ∙ ap stands_for_expr read in
    let form : c.is_form.result ≡ is_form c.args.forms.now cs n =
    c.is_form.ensures ∙ ap (stands_for_form (kind_at c.args.forms.now n)) read in
    let P : ℕ → List ℕ → Type 0 = λ count list. Numbered (is_expr cs) (n + 1) count list in
    let Q : ℕ → List ℕ → Type 0 = λ count list. Numbered (is_form c.args.forms.now cs) (n + 1) count list in
    record {
      exprs = elim c.if-is_expr.branch [
        | then-is_expr w ↦
            rw (w.expr_count-is, c.in_ok-push.ensures.ok)
            (numbered_with _ n _ _ c.loop-node.invariant.exprs (sym expr ∙ w.if-is_expr.true))
        | else-is_expr w ↦
            rw (w.expr_count-is, c.in_ok-push.ensures.ok)
            (numbered_without _ n _ _ c.loop-node.invariant.exprs (sym expr ∙ w.if-is_expr.false))
      ];
      forms = elim c.if-is_form.branch [
        | then-is_form w ↦
            rw (w.form_count-is, c.in_ok-push-2.ensures.ok)
            (numbered_with _ n _ _ c.loop-node.invariant.forms (sym form ∙ w.if-is_form.true))
        | else-is_form w ↦
            rw (w.form_count-is, c.in_ok-push-2.ensures.ok)
            (numbered_without _ n _ _ c.loop-node.invariant.forms (sym form ∙ w.if-is_form.false))
      ];
    }
