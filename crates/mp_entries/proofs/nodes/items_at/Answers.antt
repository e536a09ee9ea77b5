use Rattle.std.proofs.Common.{◌≡◌, ◌<◌, ℕ, List, length, sym, ◌∙◌, ap, subst, slice_index}
use Rattle.form_reader.specs.declared.forms.Node.{Node}
use Rattle.form_reader.specs.Sound.{items_of, kind_at}
use Rattle.mp_entries.proofs.InRange.{items_inside}
use Rattle.mp_entries.proofs.nodes.items_at.Goals as goal

pub returns-in-Group-clause-inside : goal.returns-in-Group-clause-inside
returns-in-Group-clause-inside c =
    let kind = ap (λ (n : Node). items_of n.kind) c.node_at.ensures in
    let is : c.as_slice.result.now ≡ items_of (kind_at c.args.forms.now c.args.node) =
    c.as_slice.ensures ∙ sym (ap items_of c.in-Group.is) ∙ kind in
    let P : List ℕ → Type 0 = λ xs. (k : ℕ) → k < length xs → slice_index xs k < length c.args.forms.now.nodes in
    subst P (sym is) (items_inside c.args.forms.now c.requires.sound c.args.node c.requires.inside)
