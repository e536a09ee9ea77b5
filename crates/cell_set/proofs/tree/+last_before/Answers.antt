use Rattle.std.proofs.Common.{◌≡◌, ℕ, ◌/◌, ◌%◌, ◌<◌, rules, arith}
use Rattle.std.specs.Int.{bit_at}
use Rattle.std.proofs.lemmas.Option.{IfSome_then}
use Rattle.cell_set.specs.Tree.{word_at}
use Rattle.cell_set.proofs.Words.{none_then}
use Rattle.cell_set.proofs.Seeking.{last_above, last_first, last_none}
use Rattle.cell_set.proofs.tree.+last_before.Goals as goal

-- src/tree.rt
pub returns-in-Some-last_before-clause-some : goal.returns-in-Some-last_before-clause-some
returns-in-Some-last_before-clause-some t c =
    let none : (i : ℕ) → i < c.args.item % 64
    → bit_at (word_at c.args.words.now (c.args.item / 64)) i ≡ 0 = search rules in
    IfSome_then c.highest_in.result c.highest_in.ensures.some
    (λ k h. last_above c.args.words.now c.args.item c.requires.sound.noted none
    c.in-Some-last_before.above k c.in-Some-last_before.ensures.some h)

-- src/tree.rt
pub returns-in-None-clause-some : goal.returns-in-None-clause-some
returns-in-None-clause-some t c =
    let none : (i : ℕ) → i < c.args.item % 64
    → bit_at (word_at c.args.words.now (c.args.item / 64)) i ≡ 0 = search rules in
    IfSome_then c.highest_in-in-None.result c.highest_in-in-None.ensures.some
    (λ k h. last_first c.args.words.now c.args.item c.requires.sound.noted none
    (omega arith) c.in-None.ensures.none k h)

-- src/tree.rt
pub returns-in-None-clause-none : goal.returns-in-None-clause-none
returns-in-None-clause-none t c =
    let none : (i : ℕ) → i < c.args.item % 64
    → bit_at (word_at c.args.words.now (c.args.item / 64)) i ≡ 0 = search rules in
    none_then c.highest_in-in-None.result _ _ c.highest_in-in-None.ensures.none
    (λ z. last_none c.args.words.now c.args.item c.requires.sound.noted none
    c.in-None.ensures.none z)
