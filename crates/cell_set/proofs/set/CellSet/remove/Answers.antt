use Rattle.std.proofs.Common.{◌≡◌, false, ◌+◌, ◌-◌, ◌*◌, ◌<◌, List, ℕ, length, sym, subst, arith}
use Rattle.cell_set.specs.Sets.{has, room_of}
use Rattle.cell_set.proofs.Cells.{test, untested, same_test}
use Rattle.cell_set.proofs.set.CellSet.remove.Goals as goal

-- src/set.rt
pub clear-requires-clause-within : goal.clear-requires-clause-within
unfolding room_of
clear-requires-clause-within c =
    let s = c.args.self.now.sound.some in
    let r : c.args.cell < 63 * length c.args.self.now.words.items + 1 = c.requires in
    omega arith

-- src/set.rt
pub returns-clause-own : goal.returns-clause-own
unfolding has
returns-clause-own c =
    let new : List ℕ = c.clear.new.words.items in
    let a = c.clear.ensures.as_many in
    let e : c.len.result ≡ length new = omega arith in
    subst (λ n. test new (n - 1 + c.args.cell) ≡ false) e (untested new _ c.clear.ensures.cleared)

-- src/set.rt
pub returns-clause-others : goal.returns-clause-others
unfolding has
returns-clause-others c = λ d n.
    let old : List ℕ = c.args.self.now.words.items in
    let new : List ℕ = c.clear.new.words.items in
    let s = c.args.self.now.sound.some in
    let e : length old ≡ length new = sym c.clear.ensures.as_many in
    subst (λ m. test new (m - 1 + d) ≡ test old (length old - 1 + d)) e
    (same_test old new (length old - 1 + d) (c.clear.ensures.leaves _ (omega arith) (λ f. n (omega arith)))
    (c.clear.ensures.fewer _))

-- src/set.rt
pub returns-clause-room : goal.returns-clause-room
unfolding room_of
returns-clause-room c = let a = c.clear.ensures.as_many in omega arith
