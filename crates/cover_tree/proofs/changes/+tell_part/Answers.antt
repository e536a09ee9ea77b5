use Rattle.std.proofs.Common.{◌≤◌, refl, sym, ◌∙◌, arith}
use Rattle.cover_tree.specs.Parts.Within.{here}
use Rattle.cover_tree.specs.Parts.{left_half, right_half}
use Rattle.cover_tree.specs.Changing.{was, is}
use Rattle.cover_tree.specs.Notes.{IsTold, IsOnlyIn}
use Rattle.cover_tree.proofs.Tops.{small_left, small_right}
use Rattle.cover_tree.proofs.Noting.{noted_left, own_same}
use Rattle.cover_tree.proofs.Raising.{right_noted, both_noted, both_told, both_only, only_none}
use Rattle.cover_tree.proofs.Alike.{same_set}
use Rattle.cover_tree.proofs.Telling.{stays}
use Rattle.cover_tree.proofs.Changing.{alike_change, leaf_told, halves_told}
use Rattle.cover_tree.proofs.changes.+tell_part.Goals as goal

-- src/changes.rt
pub returns-then-trees-note_at : goal.returns-then-trees-note_at
returns-then-trees-note_at t c = record {
  noted = c.requires.noted;
  told = c.requires.noted.told c.args.part here (rw (← c.note_at.ensures) c.if-trees-note_at.true);
  only = only_none c.args.part c.args.trees.now;
  tops = λ l. refl;
  pieces = c.tell_noted.ensures;
}

-- src/changes.rt
pub returns-then-eq : goal.returns-then-eq
returns-then-eq t c =
    let told : IsTold c.args.trees.now c.args.part =
    c.requires.noted.told c.args.part here (rw (← c.note_at.ensures) c.if-trees-note_at.true) in
    record {
      noted = c.requires.noted;
      told = told;
      only = only_none c.args.part c.args.trees.now;
      tops = λ l. refl;
      pieces = stays (was c.args.palette.now.mask c.args.trees.now c.args.part c.args.known)
          (is c.args.palette.now.mask c.args.trees.now c.args.part c.args.known)
          c.args.pieces.now.items c.args.last.now c.args.part
          (alike_change c.args.palette.now.mask c.args.trees.now c.args.part c.args.known told
          (same_set _ _ (sym c.eq.ensures ∙ c.if-eq.true)));
    }

-- src/changes.rt
pub settle-requires-clause-halves : goal.settle-requires-clause-halves
settle-requires-clause-halves t c = record { left = λ w. absurd (omega arith); right = λ w. absurd (omega arith) }

-- src/changes.rt
pub settle-requires-clause-told_halves : goal.settle-requires-clause-told_halves
settle-requires-clause-told_halves t c = record { left = λ w. absurd (omega arith); right = λ w. absurd (omega arith) }

-- src/changes.rt
pub returns-then-part-lt2 : goal.returns-then-part-lt2
returns-then-part-lt2 t c = record {
  noted = c.settle.ensures.noted;
  told = c.settle.ensures.told;
  only = c.settle.ensures.only;
  tops = c.settle.ensures.tops;
  pieces = leaf_told c.args.palette.now.mask c.args.trees.now c.args.part c.args.known c.handed_down-down.result
      c.handed_down-down.ensures.before c.handed_down-down.ensures.after c.args.pieces.now.items
      c.tell_cell.new.pieces.items c.args.last.now c.tell_cell.new.last c.requires.further
      c.if-part-lt2.true c.tell_cell.ensures;
}

-- src/changes.rt
pub tell_part-requires : goal.tell_part-requires
tell_part-requires t c =
    let h : 2 ≤ c.args.part.width = omega arith in
    let b = c.requires.room in
    rw c.left.ensures (
      omega arith,
      (
        small_left c.args.part h c.requires.small,
        (omega arith, (c.requires.further, noted_left c.args.trees.now c.args.part h c.requires.noted)),
      ),
    )

-- src/changes.rt
pub tell_part-requires-2 : goal.tell_part-requires-2
tell_part-requires-2 t c =
    let h : 2 ≤ c.args.part.width = omega arith in
    let b = c.requires.room in
    let l : IsOnlyIn (left_half c.args.part) c.args.trees.now c.tell_part.new.trees =
    rw (← c.left.ensures) c.tell_part.ensures.only in
    let n = l.as_many in
    rw c.right.ensures (
      omega arith,
      (
        small_right c.args.part h c.requires.small,
        (
          omega arith,
          (
            l.further ∙ c.requires.further,
            right_noted c.args.trees.now c.tell_part.new.trees c.args.part h l c.requires.noted,
          ),
        ),
      ),
    )

-- src/changes.rt
pub settle-requires-2-clause-own : goal.settle-requires-2-clause-own
settle-requires-2-clause-own t c =
    let m = c.tell_part.ensures in
    let n = c.tell_part-2.ensures in
    own_same c.args.trees.now c.tell_part-2.new.trees c.own_at-own.result c.args.part.at
    (n.only.further ∙ m.only.further) (n.only.since ∙ m.only.since) (λ l. n.tops l ∙ m.tops l) c.own_at-own.ensures

-- src/changes.rt
pub settle-requires-2-clause-halves : goal.settle-requires-2-clause-halves
settle-requires-2-clause-halves t c =
    let h : 2 ≤ c.args.part.width = omega arith in
    let r : IsOnlyIn (right_half c.args.part) c.tell_part.new.trees c.tell_part-2.new.trees =
    rw (← c.right.ensures) c.tell_part-2.ensures.only in
    both_noted c.tell_part.new.trees c.tell_part-2.new.trees c.args.part h r
    (rw (← c.left.ensures) c.tell_part.ensures.noted) (rw (← c.right.ensures) c.tell_part-2.ensures.noted)

-- src/changes.rt
pub settle-requires-2-clause-told_halves : goal.settle-requires-2-clause-told_halves
settle-requires-2-clause-told_halves t c =
    let h : 2 ≤ c.args.part.width = omega arith in
    let r : IsOnlyIn (right_half c.args.part) c.tell_part.new.trees c.tell_part-2.new.trees =
    rw (← c.right.ensures) c.tell_part-2.ensures.only in
    both_told c.tell_part.new.trees c.tell_part-2.new.trees c.args.part h r
    (rw (← c.left.ensures) c.tell_part.ensures.told) (rw (← c.right.ensures) c.tell_part-2.ensures.told)

-- src/changes.rt
pub returns : goal.returns
returns t c =
    let h : 2 ≤ c.args.part.width = omega arith in
    let l : IsOnlyIn (left_half c.args.part) c.args.trees.now c.tell_part.new.trees =
    rw (← c.left.ensures) c.tell_part.ensures.only in
    let r : IsOnlyIn (right_half c.args.part) c.tell_part.new.trees c.tell_part-2.new.trees =
    rw (← c.right.ensures) c.tell_part-2.ensures.only in
    record {
      noted = c.settle-2.ensures.noted;
      told = c.settle-2.ensures.told;
      only = both_only c.args.trees.now c.tell_part.new.trees c.tell_part-2.new.trees c.args.part h l r
          c.settle-2.new.self c.settle-2.ensures.only;
      tops = λ k. c.settle-2.ensures.tops k ∙ c.tell_part-2.ensures.tops k
          ∙ c.tell_part.ensures.tops k;
      pieces = halves_told c.args.palette.now.mask c.args.trees.now c.args.part c.args.known c.handed_down-down.result
          c.handed_down-down.ensures.before c.handed_down-down.ensures.after c.tell_part.new.trees l h
          c.args.pieces.now.items c.tell_part.new.pieces.items c.tell_part-2.new.pieces.items
          c.args.last.now c.tell_part.new.last c.tell_part-2.new.last
          (rw c.left.ensures at c.tell_part.ensures.pieces)
          (rw c.right.ensures at c.tell_part-2.ensures.pieces);
    }
