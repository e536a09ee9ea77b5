use Rattle.std.proofs.Common.{ap, arith}
use Rattle.std.specs.Prelude.{nat_lt, if◌then◌else◌}
use Rattle.mask_runs.specs.Colours.{bare, colour_of}
use Rattle.cover_tree.specs.Layered.{told_tree}
use Rattle.cover_tree.specs.Parts.{root, top_of}
use Rattle.cover_tree.specs.Trees.{cover_of, told_of, row_of}
use Rattle.cover_tree.proofs.Looking.{seen_alike}
use Rattle.cover_tree.proofs.Nodes.{uses_kept}
use Rattle.cover_tree.proofs.Covering.{raised_cover}
use Rattle.cover_tree.proofs.tree.CoverTree.raise.Goals as goal

-- src/tree.rt
pub raise_part-requires-clause-reached : goal.raise_part-requires-clause-reached
unfolding cover_of
raise_part-requires-clause-reached c =
    let s = c.if-from-to.true in
    let w = c.requires.within in
    rw c.root-root.ensures (record { some = s; starts = omega arith; ends = omega arith })

-- src/tree.rt
pub raise_part-requires-clause-room : goal.raise_part-requires-clause-room
unfolding cover_of
raise_part-requires-clause-room c =
    let s = c.args.self.now.sound in
    let a = s.room in
    rw c.root-root.ensures
    (record { kept = rw s.kept (uses_kept c.args.self.now.mask c.args.layer c.requires.used); room = omega arith })

-- src/tree.rt
pub returns-then-from-to-clause-raised : goal.returns-then-from-to-clause-raised
unfolding cover_of
returns-then-from-to-clause-raised c =
    raised_cover c.args.self.now.mask c.args.self.now.cells c.args.self.now.trees c.raise_part.new.trees c.args.layer
    c.args.from c.args.to c.args.row
    c.requires.within (rw (← c.root-root.ensures) c.raise_part.ensures.raised) c.raise_part.ensures.others

-- src/tree.rt
pub returns-then-from-to-clause-row : goal.returns-then-from-to-clause-row
unfolding row_of
returns-then-from-to-clause-row c = c.raise_part.ensures.only.since

-- src/tree.rt
pub returns-then-from-to-clause-told : goal.returns-then-from-to-clause-told
unfolding told_of
returns-then-from-to-clause-told c = λ cell.
    ap (λ s. if nat_lt cell c.args.self.now.cells then colour_of c.args.self.now.mask s else 0)
    (seen_alike (told_tree c.args.self.now.trees) (told_tree c.raise_part.new.trees) (root c.args.self.now.cells)
    (λ l. ap (λ s. top_of s (root c.args.self.now.cells)) (c.raise_part.ensures.told l)) 0 bare cell)
