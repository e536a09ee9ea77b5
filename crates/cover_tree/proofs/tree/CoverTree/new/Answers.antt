use Rattle.std.proofs.Common.{◌*◌, inl, inr, refl, ◌∙◌, ap}
use Rattle.std.proofs.lemmas.Bool.{cases_lt, lt-ltb, le-ltb}
use Rattle.mask_runs.specs.Colours.{colour_of}
use Rattle.cover_tree.specs.Parts.{root}
use Rattle.cover_tree.specs.Trees.{cover_of, told_of, row_of}
use Rattle.cover_tree.proofs.Covering.{new_room, new_bare, new_noted, bare_cover, told_bare, bare_colour}
use Rattle.cover_tree.proofs.tree.CoverTree.new.Goals as goal

-- src/tree.rt
pub invariant_of-result : goal.invariant_of-result
invariant_of-result c =
    let n = c.in_ok-trees.ensures.nodes in
    record {
      sound = record {
        some = c.requires.some;
        small = c.requires.small;
        noted = new_noted c.in_ok-trees.trees (2 * c.args.cells) n.0 n.2 n.1 (root c.args.cells);
        kept = c.in_ok-trees.ensures.kept;
        room = new_room c.in_ok-trees.trees (2 * c.args.cells) n.0 n.2;
      };
    }

-- src/tree.rt
pub returns-clause-bare : goal.returns-clause-bare
unfolding cover_of
returns-clause-bare c =
    let n = c.in_ok-trees.ensures.nodes in
    bare_cover c.args.mask c.args.cells c.in_ok-trees.trees (new_bare c.in_ok-trees.trees (2 * c.args.cells) n.0 n.2)

-- src/tree.rt
pub returns-clause-row : goal.returns-clause-row
unfolding row_of
returns-clause-row c = c.in_ok-trees.ensures.since

-- src/tree.rt
pub returns-clause-told : goal.returns-clause-told
unfolding told_of
returns-clause-told c = λ cell.
    let n = c.in_ok-trees.ensures.nodes in
    elim (cases_lt cell c.args.cells) [
      | inl h ↦ rw (lt-ltb cell c.args.cells h)
          (ap (colour_of c.args.mask)
          (told_bare c.in_ok-trees.trees (2 * c.args.cells) n.0 n.2 (root c.args.cells) cell)
          ∙ bare_colour c.args.mask)
      | inr h ↦ rw (le-ltb cell c.args.cells h) refl
    ]
