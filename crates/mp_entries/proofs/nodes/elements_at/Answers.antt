use Rattle.std.proofs.Common.{◌<◌, ℕ, List, length, sym, ap, subst, slice_index, arith}
use Rattle.std.proofs.lemmas.List.{length-drop}
use Rattle.mp_entries.proofs.InRange.{items_few, drop_inside}
use Rattle.mp_entries.proofs.nodes.elements_at.Goals as goal

pub returns-clause-inside : goal.returns-clause-inside
returns-clause-inside c =
    let P : List ℕ → Type 0 = λ xs. (k : ℕ) → k < length xs → slice_index xs k < length c.args.forms.now.nodes in
    subst P (sym c.behind.ensures)
    (drop_inside c.items_at.result.now 3 (length c.args.forms.now.nodes) c.items_at.ensures.inside)

pub returns-clause-few : goal.returns-clause-few
returns-clause-few c =
    omega (
      arith,
      ap length c.behind.ensures,
      ap length c.items_at.ensures.value,
      length-drop 3
          c.items_at.result.now,
      items_few c.args.forms.now c.requires.sound c.args.node c.requires.inside,
    )
