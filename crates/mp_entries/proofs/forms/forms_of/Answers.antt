use Rattle.std.proofs.Common.{◌≡◌, ◌<◌, ◌++◌, ◌∷◌, [], ℕ, None, length, sym, ◌∙◌, ap, map, arith}
use Rattle.std.proofs.Common.{slice_index, slice_index_or}
use Rattle.std.proofs.lemmas.List.{get_or_read}
use Rattle.form_reader.specs.Sound.{kind_at}
use Rattle.mp_program.specs.declared.program.Form.{Form}
use Rattle.mp_entries.specs.Entries.{form_at, is_form, nodes_below, stands_for_form}
use Rattle.mp_entries.proofs.Numbering.{entries_with, entries_without}
use Rattle.mp_entries.proofs.forms.forms_of.Goals.{then-is_form+in_ok-form_of+in_ok-push, else-is_form}
use Rattle.mp_entries.proofs.forms.forms_of.Goals as goal

pub loop-node-preserved : goal.loop-node-preserved
loop-node-preserved c =
    let n = c.loop-node.node in
    let cs = c.args.classes.now in
    let lt : n < length cs = omega arith in
    let read : c.at.result.now ≡ slice_index_or cs n None = get_or_read cs n c.at.result.now lt c.at.ensures None in
    let test : c.is_form.result ≡ is_form c.args.forms.now cs n =
    c.is_form.ensures ∙ ap (stands_for_form (kind_at c.args.forms.now n)) read in
    let entry : ℕ
    → Form = form_at c.args.forms.now (slice_index c.args.ranks.now.exprs) (slice_index c.args.ranks.now.forms) in
    elim c.if-is_form.branch [
      | then-is_form+in_ok-form_of+in_ok-push w ↦
          w.list-is ∙ w.in_ok-push.ensures.ok ∙ ap (λ xs. xs ++ w.in_ok-form_of.field-0 ∷ []) c.loop-node.invariant
          ∙ ap (λ x. map entry (nodes_below (is_form c.args.forms.now cs) n) ++ x ∷ []) w.in_ok-form_of.ensures
          ∙ sym (entries_with entry (is_form c.args.forms.now cs) n (sym test ∙ w.if-is_form.true))
      | else-is_form w ↦ w.list-is ∙ c.loop-node.invariant
          ∙ sym (entries_without entry (is_form c.args.forms.now cs) n (sym test ∙ w.if-is_form.false))
    ]
