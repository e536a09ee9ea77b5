use Rattle.std.proofs.Common.{◌≡◌, ℕ, ◌+◌, ◌/◌, ◌≤◌, refl, ◌∙◌, ap, arith}
use Rattle.cover_tree.specs.declared.part.Part.{Part}
use Rattle.cover_tree.specs.declared.trees.Trees.{Trees}
use Rattle.cover_tree.specs.Parts.{left_half, right_half}
use Rattle.cover_tree.specs.Layered.{tree}
use Rattle.cover_tree.specs.Notes.{AreNoted, IsOnlyIn}
use Rattle.cover_tree.proofs.Nodes.{tree_length}
use Rattle.cover_tree.proofs.Noting.{noted_left, noted_right, noted_halves, stale_whole}
use Rattle.cover_tree.proofs.Raising.{raised_all, lifted_halves, right_noted, both_raised, both_whole, left_raised}
use Rattle.cover_tree.proofs.Raising.{right_raised, left_whole, right_whole}
use Rattle.cover_tree.proofs.raise.+raise_part.Goals.{else-from-part-via-then-from-part+else-end-to}
use Rattle.cover_tree.proofs.raise.+raise_part.Goals.{else-from-part-via-else-from-part, After-right-right}
use Rattle.cover_tree.proofs.raise.+raise_part.Goals as goal

-- a part that has some of the cells, but not all of its own, has halves
wide : (t : ℕ) (c : After-right-right t) → 2 ≤ c.args.part.width
wide t c = elim c.else-from-part.branch [
  | else-from-part-via-then-from-part+else-end-to w ↦
      let e = w.end.ensures in let f = w.if-end-to.false in omega arith
  | else-from-part-via-else-from-part w ↦ let f = w.if-from-part.false in omega arith
]

-- src/raise.rt
pub returns-then-end-to-clause-raised : goal.returns-then-end-to-clause-raised
returns-then-end-to-clause-raised t c =
    let room = c.requires.room.room in
    let many = tree_length c.args.trees.now c.args.layer in
    let end = c.end.ensures in
    rw (c.lift.ensures.own, c.forget.ensures.tops c.args.layer)
    (raised_all (tree c.args.trees.now c.args.layer) c.args.part c.args.from c.args.to c.args.row c.requires.small.some
    (omega arith) (omega arith) (omega arith))

-- src/raise.rt
pub returns-then-end-to-clause-noted : goal.returns-then-end-to-clause-noted
returns-then-end-to-clause-noted t c = λ n.
    let p : Part = c.args.part in
    let f : Trees = c.forget.new.self in
    let m : AreNoted f p = c.forget.ensures.noted (noted_halves c.args.trees.now p n) in
    stale_whole c.lift.new.self p (c.lift.ensures.note ∙ c.forget.ensures.stale)
    (lifted_halves f c.lift.new.self p.at c.lift.ensures.beside c.lift.ensures.as_many c.lift.ensures.further
    c.lift.ensures.since p refl c.requires.small.some m)

-- src/raise.rt
pub returns-then-to-right-clause-raised : goal.returns-then-to-right-clause-raised
returns-then-to-right-clause-raised t c =
    let p : Part = c.args.part in
    let f : Trees = c.forget.new.self in
    let u : Trees = c.raise_part.new.trees in
    let h : 2 ≤ c.args.part.width = wide t (goal.at.returns-then-to-right-clause-raised t c).After-right-right in
    let l : IsOnlyIn (left_half p) f u = rw (← c.left.ensures) c.raise_part.ensures.only in
    let mid : c.right-right.result.base ≡ p.base + p.width / 2 = ap (λ q. q.base) c.right-right.ensures in
    rw (← c.forget.ensures.tops c.args.layer)
    (left_raised f u p h l c.args.layer c.args.from c.args.to c.args.row (omega arith)
    (rw (← c.left.ensures) c.raise_part.ensures.raised))

-- src/raise.rt
pub returns-then-to-right-clause-noted : goal.returns-then-to-right-clause-noted
returns-then-to-right-clause-noted t c = λ n.
    let p : Part = c.args.part in
    let f : Trees = c.forget.new.self in
    let u : Trees = c.raise_part.new.trees in
    let h : 2 ≤ c.args.part.width = wide t (goal.at.returns-then-to-right-clause-noted t c).After-right-right in
    let m : AreNoted f p = c.forget.ensures.noted (noted_halves c.args.trees.now p n) in
    let l : IsOnlyIn (left_half p) f u = rw (← c.left.ensures) c.raise_part.ensures.only in
    let a : AreNoted f (left_half p) → AreNoted u (left_half p) =
    rw (← c.left.ensures) c.raise_part.ensures.noted in
    left_whole f u p h l c.forget.ensures.stale m (a (noted_left f p h m))

-- src/raise.rt
pub returns-then-right-from-clause-raised : goal.returns-then-right-from-clause-raised
returns-then-right-from-clause-raised t c =
    let p : Part = c.args.part in
    let f : Trees = c.forget.new.self in
    let u : Trees = c.raise_part-then-right-from.new.trees in
    let h : 2 ≤ c.args.part.width = wide t (goal.at.returns-then-right-from-clause-raised t c).After-right-right in
    let r : IsOnlyIn (right_half p) f u = rw (← c.right-right.ensures) c.raise_part-then-right-from.ensures.only in
    let mid : c.right-right.result.base ≡ p.base + p.width / 2 = ap (λ q. q.base) c.right-right.ensures in
    rw (← c.forget.ensures.tops c.args.layer)
    (right_raised f u p h r c.args.layer c.args.from c.args.to c.args.row (omega arith)
    (rw (← c.right-right.ensures) c.raise_part-then-right-from.ensures.raised))

-- src/raise.rt
pub returns-then-right-from-clause-noted : goal.returns-then-right-from-clause-noted
returns-then-right-from-clause-noted t c = λ n.
    let p : Part = c.args.part in
    let f : Trees = c.forget.new.self in
    let u : Trees = c.raise_part-then-right-from.new.trees in
    let h : 2 ≤ c.args.part.width = wide t (goal.at.returns-then-right-from-clause-noted t c).After-right-right in
    let m : AreNoted f p = c.forget.ensures.noted (noted_halves c.args.trees.now p n) in
    let r : IsOnlyIn (right_half p) f u = rw (← c.right-right.ensures) c.raise_part-then-right-from.ensures.only in
    let a : AreNoted f (right_half p) → AreNoted u (right_half p) =
    rw (← c.right-right.ensures) c.raise_part-then-right-from.ensures.noted in
    right_whole f u p h r c.forget.ensures.stale m (a (noted_right f p h m))

-- src/raise.rt
pub returns-else-right-from-clause-raised : goal.returns-else-right-from-clause-raised
returns-else-right-from-clause-raised t c =
    let p : Part = c.args.part in
    let f : Trees = c.forget.new.self in
    let one : Trees = c.raise_part-else-right-from.new.trees in
    let two : Trees = c.raise_part-else-right-from-2.new.trees in
    let h : 2 ≤ c.args.part.width = wide t (goal.at.returns-else-right-from-clause-raised t c).After-right-right in
    let l : IsOnlyIn (left_half p) f one =
    rw (← c.left-else-right-from.ensures) c.raise_part-else-right-from.ensures.only in
    let r : IsOnlyIn (right_half p) one two =
    rw (← c.right-right.ensures) c.raise_part-else-right-from-2.ensures.only in
    rw (← c.forget.ensures.tops c.args.layer)
    (both_raised f one two p h l r c.args.layer c.args.from c.args.to c.args.row
    (rw (← c.left-else-right-from.ensures) c.raise_part-else-right-from.ensures.raised)
    (rw (← c.right-right.ensures) c.raise_part-else-right-from-2.ensures.raised))

-- src/raise.rt
pub returns-else-right-from-clause-noted : goal.returns-else-right-from-clause-noted
returns-else-right-from-clause-noted t c = λ n.
    let p : Part = c.args.part in
    let f : Trees = c.forget.new.self in
    let one : Trees = c.raise_part-else-right-from.new.trees in
    let two : Trees = c.raise_part-else-right-from-2.new.trees in
    let h : 2 ≤ c.args.part.width = wide t (goal.at.returns-else-right-from-clause-noted t c).After-right-right in
    let m : AreNoted f p = c.forget.ensures.noted (noted_halves c.args.trees.now p n) in
    let l : IsOnlyIn (left_half p) f one =
    rw (← c.left-else-right-from.ensures) c.raise_part-else-right-from.ensures.only in
    let r : IsOnlyIn (right_half p) one two =
    rw (← c.right-right.ensures) c.raise_part-else-right-from-2.ensures.only in
    let a : AreNoted f (left_half p) → AreNoted one (left_half p) =
    rw (← c.left-else-right-from.ensures) c.raise_part-else-right-from.ensures.noted in
    let b : AreNoted one (right_half p) → AreNoted two (right_half p) =
    rw (← c.right-right.ensures) c.raise_part-else-right-from-2.ensures.noted in
    both_whole f one two p h l r c.forget.ensures.stale (a (noted_left f p h m)) (b (right_noted f one p h l m))
