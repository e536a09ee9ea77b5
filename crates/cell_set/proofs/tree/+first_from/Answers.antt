use Rattle.std.proofs.Common.{◌≡◌, ℕ, ◌/◌, ◌%◌, ◌≤◌, rules}
use Rattle.std.specs.Int.{bit_at}
use Rattle.std.proofs.lemmas.Option.{IfSome_then}
use Rattle.cell_set.specs.Tree.{word_at}
use Rattle.cell_set.proofs.Seeking.{none_at_all, first_past, first_above}
use Rattle.cell_set.proofs.tree.+first_from.Goals as goal

-- src/tree.rt
pub returns-then-item-eq0-clause-none : goal.returns-then-item-eq0-clause-none
returns-then-item-eq0-clause-none t c =
    let none : (i : ℕ) → c.args.item % 64 ≤ i
    → bit_at (word_at c.args.words.now (c.args.item / 64)) i ≡ 0 = search rules in
    none_at_all c.args.words.now c.args.item c.requires.sound.noted none c.if-item-eq0.true

-- src/tree.rt
pub returns-then-words-above-clause-none : goal.returns-then-words-above-clause-none
returns-then-words-above-clause-none t c =
    let none : (i : ℕ) → c.args.item % 64 ≤ i
    → bit_at (word_at c.args.words.now (c.args.item / 64)) i ≡ 0 = search rules in
    first_past c.args.words.now c.args.item c.requires.sound.noted none c.in_ok-above.above c.in_ok-above.ensures.some
    c.if-words-above.true

-- src/tree.rt
pub returns-clause-some : goal.returns-clause-some
returns-clause-some t c =
    let none : (i : ℕ) → c.args.item % 64 ≤ i
    → bit_at (word_at c.args.words.now (c.args.item / 64)) i ≡ 0 = search rules in
    IfSome_then c.lowest_in.result c.lowest_in.ensures.some
    (λ k h. first_above c.args.words.now c.args.item c.requires.sound.noted none
    c.in_ok-above.above k c.in_ok-above.ensures.some h)
