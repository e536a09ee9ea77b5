use Rattle.std.proofs.Common.{◌≡◌, true, ℕ, ◌+◌, ◌-◌, ◌*◌, ◌<◌, ◌≤◌, List, length, ap, subst, arith}
use Rattle.cell_set.specs.Tree.{IsMarked, IsFirst}
use Rattle.cell_set.specs.Sets.{has, room_of}
use Rattle.cell_set.proofs.Cells.{test, tested, untested}
use Rattle.cell_set.proofs.set.CellSet.first_from.Goals as goal

-- src/set.rt
pub first_from-requires-clause-within : goal.first_from-requires-clause-within
unfolding room_of
first_from-requires-clause-within c =
    let s = c.args.self.now.sound.some in
    let e : length c.deref.result.now ≡ length c.args.self.now.words.items = ap length c.deref.ensures.value in
    let r : c.args.cell < 63 * length c.args.self.now.words.items + 1 = c.requires in
    omega arith

-- src/set.rt
pub returns-in_err-item-clause-none : goal.returns-in_err-item-clause-none
unfolding has
returns-in_err-item-clause-none c =
    let w : List ℕ = c.args.self.now.words.items in
    let n : (i : ℕ) → c.len-leaf.result - 1 + c.args.cell ≤ i
    → ¬ IsMarked w i = rw c.deref.ensures.value at c.in_err-item.ensures.none in
    rw c.from_residual.ensures (λ d h. untested w _ (n (length w - 1 + d) (omega arith)))

-- src/set.rt
pub returns-clause-some : goal.returns-clause-some
unfolding has
returns-clause-some c =
    let w : List ℕ = c.args.self.now.words.items in
    let l : IsFirst w (c.len-leaf.result - 1 + c.args.cell) c.in_ok-item.item =
    rw c.deref.ensures.value at c.in_ok-item.ensures.some in
    let o = l.order in
    let e : c.in_ok-item.item ≡ length w - 1 + (c.in_ok-item.item - (c.len-leaf.result - 1)) = omega arith in
    record {
      order = omega arith;
      own = subst (λ i. test w i ≡ true) e (tested w c.in_ok-item.item l.marked);
      none = λ d h k. untested w _ (l.none (length w - 1 + d) (omega arith) (omega arith));
    }
