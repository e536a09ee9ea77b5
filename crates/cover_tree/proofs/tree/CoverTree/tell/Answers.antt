use Rattle.std.proofs.Common.{◌∙◌}
use Rattle.cover_tree.specs.declared.trees.Trees.{Trees}
use Rattle.cover_tree.specs.Parts.{root}
use Rattle.cover_tree.specs.Trees.{cover_of, told_of, row_of}
use Rattle.cover_tree.proofs.Covering.{same_cover}
use Rattle.cover_tree.proofs.Noting.{later}
use Rattle.cover_tree.proofs.Changing.{told_below, told_root, told_pieces}
use Rattle.cover_tree.proofs.tree.CoverTree.tell.Goals as goal

-- src/tree.rt
pub tell_part-requires-clause-noted : goal.tell_part-requires-clause-noted
unfolding row_of
tell_part-requires-clause-noted c = rw c.root-root.ensures
    (later c.args.self.now.trees (root c.args.self.now.cells) c.args.row c.requires.order
    c.args.self.now.sound.noted)

-- src/tree.rt
pub returns-clause-cover : goal.returns-clause-cover
unfolding cover_of
returns-clause-cover c =
    same_cover c.args.self.now.mask c.args.self.now.cells c.args.self.now.trees c.tell_part.new.trees
    c.tell_part.ensures.tops

-- src/tree.rt
pub returns-clause-row : goal.returns-clause-row
unfolding row_of
returns-clause-row c = c.tell_part.ensures.only.since

-- src/tree.rt
pub returns-clause-told : goal.returns-clause-told
unfolding cover_of told_of
returns-clause-told c = λ cell h.
    let t : Trees = c.args.self.now.trees in
    let u : Trees = c.tell_part.new.trees in
    told_below c.args.self.now.mask c.args.self.now.cells u c.args.row cell h
    ∙ told_root c.args.self.now.mask c.args.self.now.cells t c.args.row cell h u
    (rw c.root-root.ensures at c.tell_part.ensures.told) c.tell_part.ensures.only.since c.tell_part.ensures.tops

-- src/tree.rt
pub returns-clause-pieces : goal.returns-clause-pieces
unfolding cover_of told_of
returns-clause-pieces c =
    told_pieces c.args.self.now.mask c.args.self.now.cells c.args.self.now.trees c.args.row c.root-root.result
    c.none-bare.result c.clear.new.self.items c.tell_part.new.pieces.items c.tell_part.new.last c.root-root.ensures
    c.none-bare.ensures c.clear.ensures.items (rw c.new-palette.ensures at c.tell_part.ensures.pieces)
