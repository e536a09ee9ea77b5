-- The marked item that is nearest to one.
use Rattle.std.proofs.Common.{◌≡◌, ℕ, zero, suc, ◌+◌, ◌-◌, ◌*◌, ◌/◌, ◌%◌, ◌<◌, ◌≤◌, inl, inr, List, length, subst}
use Rattle.std.proofs.Common.{arith}
use Rattle.std.specs.Int.{bit_at}
use Rattle.std.proofs.lemmas.Bool.{cases_eq, cases_lt}
use Rattle.std.proofs.lemmas.List.{get_or_past}
use Rattle.std.proofs.lemmas.Nat.Bits.{bit_at-zero}
use Rattle.cell_set.specs.Bits.{IsLowest, IsHighest}
use Rattle.cell_set.specs.Tree.{word_at, IsMarked, AreNoted, IsLast, IsFirst}

-- a word with a bit isn't 0
some_word : (word i : ℕ) → bit_at word i ≡ 1 → 0 < word
some_word word i e = elim (cases_eq word 0) [
  | inl z ↦ let f : bit_at 0 i ≡ 1 = subst (λ w. bit_at w i ≡ 1) z e in let b = bit_at-zero i in absurd (omega arith)
  | inr n ↦ omega arith
]

marked_at : (words : List ℕ) (at place : ℕ) → place < 64 → bit_at (word_at words at) place ≡ 1
    → IsMarked words (64 * at + place)
marked_at words at place h e =
    let q : (64 * at + place) / 64 ≡ at = omega arith in
    let r : (64 * at + place) % 64 ≡ place = omega arith in
    record { bit = rw (q, r) e }

bit_in : (words : List ℕ) (at i : ℕ) → i / 64 ≡ at → IsMarked words i → bit_at (word_at words at) (i % 64) ≡ 1
bit_in words at i e m = subst (λ k. bit_at (word_at words k) (i % 64) ≡ 1) e m.bit

word_some : (words : List ℕ) (i : ℕ) → IsMarked words i → 0 < word_at words (i / 64)
word_some words i m = some_word (word_at words (i / 64)) (i % 64) m.bit

word_within : (words : List ℕ) (i : ℕ) → IsMarked words i → i / 64 < length words
word_within words i m = elim (cases_lt (i / 64) (length words)) [
  | inl h ↦ h
  | inr h ↦ let s = word_some words i m in let z : word_at words (i / 64) ≡ 0 = get_or_past words (i / 64) 0 h in
      absurd (omega arith)
]

-- the word above a marked item's is marked
above : (words : List ℕ) → AreNoted words → (i : ℕ) → IsMarked words i → 0 < i / 64 → IsMarked words (i / 64 - 1)
above words n i m h =
    let e : i / 64 - 1 + 1 ≡ i / 64 = omega arith in
    let w = word_within words i m in
    (n.each (i / 64 - 1) (omega arith)).1 (rw e (word_some words i m))

pub last_in_word : (words : List ℕ) (item place : ℕ) → IsHighest (word_at words (item / 64)) (item % 64) place
    → IsLast words item (64 * (item / 64) + place)
last_in_word words item place h = let o = h.order in record {
  order = omega arith;
  marked = marked_at words (item / 64) place (omega arith) h.is_set;
  none = λ i l k m.
      let z = h.none (i % 64) (omega arith) (omega arith) in
      let b = bit_in words (item / 64) i (omega arith) m in
      absurd (omega arith);
}

pub last_of_word : (words : List ℕ) (at place : ℕ) → IsHighest (word_at words at) 64 place
    → IsLast words (64 * at + 64) (64 * at + place)
last_of_word words at place h = let o = h.order in record {
  order = omega arith;
  marked = marked_at words at place (omega arith) h.is_set;
  none = λ i l k m.
      let z = h.none (i % 64) (omega arith) (omega arith) in
      let b = bit_in words at i (omega arith) m in
      absurd (omega arith);
}

pub first_in_word : (words : List ℕ) (at place item k : ℕ) → item ≡ 64 * at + place → at < length words
    → IsLowest (word_at words at) place k
    → IsFirst words item (64 * at + k)
first_in_word words at place item k e w h = let o = h.order in let s = h.small in record {
  order = omega arith;
  within = omega arith;
  marked = marked_at words at k (omega arith) h.is_set;
  none = λ i l n m.
      let z = h.none (i % 64) (omega arith) (omega arith) in
      let b = bit_in words at i (omega arith) m in
      absurd (omega arith);
}

-- no item of the same word stands before this one
module _ (words : List ℕ) (item : ℕ) (n : AreNoted words)
    (none : (i : ℕ) → i < item % 64 → bit_at (word_at words (item / 64)) i ≡ 0) where
  earlier : (i : ℕ) → i < item → IsMarked words i → i / 64 < item / 64
  earlier i l m = elim (cases_lt (i / 64) (item / 64)) [
    | inl h ↦ h
    | inr h ↦
        let z = none (i % 64) (omega arith) in
        let b = bit_in words (item / 64) i (omega arith) m in
        absurd (omega arith)
  ]

  pub last_alone : item / 64 ≡ 0 → (i : ℕ) → i < item → ¬ IsMarked words i
  last_alone z i l m = let e = earlier i l m in absurd (omega arith)

  up_to : (r : ℕ) → IsLast words (item / 64 - 1) r → (i : ℕ) → i < item → IsMarked words i → i / 64 ≤ r + 1
  up_to r h i l m = let e = earlier i l m in elim (cases_lt (r + 1) (i / 64)) [
    | inl k ↦ absurd (h.none (i / 64 - 1) (omega arith) (omega arith) (above words n i m (omega arith)))
    | inr k ↦ k
  ]

  pub last_above : (r k : ℕ) → IsLast words (item / 64 - 1) r → IsLast words (64 * (r + 1) + 64) k → IsLast words item k
  last_above r k h g = let o = h.order in let p = g.order in record {
    order = omega arith;
    marked = g.marked;
    none = λ i l j m. let u = up_to r h i j m in g.none i l (omega arith) m;
  }

  -- the word above has an item
  pub above_some : item < 64 * length words → (r : ℕ) → IsLast words (item / 64 - 1) r → 0 < word_at words (r + 1)
  above_some w r h = let o = h.order in (n.each r (omega arith)).0 h.marked

  lowest_word : ((i : ℕ) → i < item / 64 - 1 → ¬ IsMarked words i) → (i : ℕ) → i < item → IsMarked words i → i / 64 ≡ 0
  lowest_word h i l m = let e = earlier i l m in elim (cases_lt 0 (i / 64)) [
    | inl k ↦ absurd (h (i / 64 - 1) (omega arith) (above words n i m k))
    | inr k ↦ omega arith
  ]

  pub last_first : 0 < item / 64 → ((i : ℕ) → i < item / 64 - 1 → ¬ IsMarked words i) → (k : ℕ) → IsLast words 64 k
      → IsLast words item k
  last_first w h k g = let p = g.order in record {
    order = omega arith;
    marked = g.marked;
    none = λ i l j m. let z = lowest_word h i j m in g.none i l (omega arith) m;
  }

  pub last_none : ((i : ℕ) → i < item / 64 - 1 → ¬ IsMarked words i) → word_at words 0 ≡ 0 → (i : ℕ) → i < item
      → ¬ IsMarked words i
  last_none h z i l m =
      let e = lowest_word h i l m in
      let s : 0 < word_at words 0 = subst (λ k. 0 < word_at words k) e (word_some words i m) in
      absurd (omega arith)

-- where the first word has none, there are none
nothing : (words : List ℕ) → AreNoted words → ((i : ℕ) → bit_at (word_at words 0) i ≡ 0) → (f i : ℕ) → i ≤ f
    → ¬ IsMarked words i
nothing words n z zero i h m = let b = bit_in words 0 i (omega arith) m in let y = z (i % 64) in absurd (omega arith)
nothing words n z (suc f) i h m = elim (cases_lt 0 (i / 64)) [
  | inl k ↦ nothing words n z f (i / 64 - 1) (omega arith) (above words n i m k)
  | inr k ↦ let b = bit_in words 0 i (omega arith) m in let y = z (i % 64) in absurd (omega arith)
]

-- no item of the same word stands from this one on
module _ (words : List ℕ) (item : ℕ) (n : AreNoted words)
    (none : (i : ℕ) → item % 64 ≤ i → bit_at (word_at words (item / 64)) i ≡ 0) where
  pub none_at_all : item ≡ 0 → (i : ℕ) → item ≤ i → ¬ IsMarked words i
  none_at_all e i h =
      nothing words n
      (λ j. let z : 0 % 64 ≤ j
      → bit_at (word_at words (0 / 64)) j
      ≡ 0 = subst (λ k. k % 64 ≤ j → bit_at (word_at words (k / 64)) j ≡ 0) e (none j) in z (omega arith)) i i
      (omega arith)

  later : (i : ℕ) → item ≤ i → IsMarked words i → item / 64 < i / 64
  later i l m = elim (cases_lt (item / 64) (i / 64)) [
    | inl h ↦ h
    | inr h ↦
        let z = none (i % 64) (omega arith) in
        let b = bit_in words (item / 64) i (omega arith) m in
        absurd (omega arith)
  ]

  pub first_none : ((i : ℕ) → item / 64 ≤ i → ¬ IsMarked words i) → (i : ℕ) → item ≤ i → ¬ IsMarked words i
  first_none h i l m = let e = later i l m in h (i / 64 - 1) (omega arith) (above words n i m (omega arith))

  from_up : (r : ℕ) → IsFirst words (item / 64) r → (i : ℕ) → item ≤ i → IsMarked words i → r + 1 ≤ i / 64
  from_up r h i l m = let e = later i l m in elim (cases_lt (i / 64 - 1) r) [
    | inl k ↦ absurd (h.none (i / 64 - 1) (omega arith) k (above words n i m (omega arith)))
    | inr k ↦ omega arith
  ]

  pub first_past : (r : ℕ) → IsFirst words (item / 64) r → length words ≤ r + 1 → (i : ℕ) → item ≤ i
      → ¬ IsMarked words i
  first_past r h w i l m = let u = from_up r h i l m in let v = word_within words i m in absurd (omega arith)

  pub first_above : (r k : ℕ) → IsFirst words (item / 64) r → IsFirst words (64 * (r + 1)) k → IsFirst words item k
  first_above r k h g = let o = h.order in let p = g.order in record {
    order = omega arith;
    within = g.within;
    marked = g.marked;
    none = λ i l j m. let u = from_up r h i l m in g.none i (omega arith) j m;
  }

  pub up_some : (r : ℕ) → IsFirst words (item / 64) r → r + 1 < length words → 0 < word_at words (r + 1)
  up_some r h w = (n.each r w).0 h.marked
