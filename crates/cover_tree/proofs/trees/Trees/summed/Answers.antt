use Rattle.std.proofs.Common.{◌≤◌, inl, inr, refl, arith}
use Rattle.cover_tree.specs.declared.layer_set.LayerSet.{LayerSet}
use Rattle.cover_tree.specs.Kinds.{union, HasKind}
use Rattle.cover_tree.specs.Parts.{left_half, right_half}
use Rattle.cover_tree.specs.Parts.Within.{here}
use Rattle.cover_tree.proofs.Noting.{leaf_noted, halves_note}
use Rattle.cover_tree.proofs.trees.Trees.summed.Goals as goal

-- src/trees.rt
pub returns-then-part-lt2 : goal.returns-then-part-lt2
returns-then-part-lt2 c =
    leaf_noted c.args.self.now c.args.part _ c.args.own c.requires.own c.own_until-until.ensures
    c.if-part-lt2.true c.one.ensures.has

-- src/trees.rt
pub returns : goal.returns
returns c =
    let h : 2 ≤ c.args.part.width = c.if-part-lt2.false in
    let has = λ (s : LayerSet) (k : HasKind c.union.result s).
    (c.with.ensures (union c.args.own s)).1 (record { kind = s; has = k; same = refl }) in
    halves_note c.args.self.now c.args.part _ c.args.own c.requires.own
    (λ row i j. c.own_until-until.ensures row i (omega arith)) c.note_at-left.result c.note_at-right.result h
    (rw (c.note_at-left.ensures, c.left.ensures) ((c.requires.halves.left h).each (left_half c.args.part) here))
    (rw (c.note_at-right.ensures, c.right.ensures) ((c.requires.halves.right h).each (right_half c.args.part) here))
    (omega arith) (omega arith)
    (λ s k. has s ((c.union.ensures s).1 (inl k)))
    (λ s k. has s ((c.union.ensures s).1 (inr k)))
