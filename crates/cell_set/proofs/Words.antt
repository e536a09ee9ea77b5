-- Bits that are set in words.
use Rattle.std.proofs.Common.{◌≡◌, ℕ, suc, ◌-◌, ◌/◌, ◌^◌, ◌<◌, ◌≤◌, min, inl, inr, bit_and, w64, refl, sym, ◌∙◌, subst}
use Rattle.std.proofs.Common.{arith}
use Rattle.std.specs.Prelude.{Option, None, Some, IfNone}
use Rattle.std.specs.Int.{bit_at, trailing_zeros, leading_zeros}
use Rattle.std.proofs.lemmas.Bool.{cases_lt}
use Rattle.std.proofs.lemmas.Nat.{leading_top, div_below, le-div, pow_pos}
use Rattle.std.proofs.lemmas.Nat.Bits.{bit_at_and, bit_at-trailing_zeros, bit_at_mask_inside, bit_at_mask_below}
use Rattle.std.proofs.lemmas.Nat.Bits.{bit_at_above, bit_at-zero, bit_at-lt, bit_at_ones, bit_at_ones_above}
use Rattle.std.proofs.lemmas.Nat.Bits.{same_from_bits}
use Rattle.cell_set.specs.Bits.{IsLowest, IsHighest}

pub none_then : (r : Option ℕ) (P Q : Type 0) → IfNone r P → (P → Q) → IfNone r Q
none_then None P Q h f = f h
none_then (Some x) P Q h f = tt

-- what is left of a word from a place on
module _ (word place rest : ℕ) (small : word < 2 ^ 64) (p : place < 64)
    (is : rest ≡ bit_and word (2 ^ 64 - 2 ^ place)) where
  from_on : (i : ℕ) → place ≤ i → i < 64 → bit_at rest i ≡ bit_at word i
  from_on i h l =
      let b = bit_at-lt word i in
      let e : bit_at rest i ≡ min (bit_at word i) (bit_at (2 ^ 64 - 2 ^ place) i) =
      rw is (bit_at_and word (2 ^ 64 - 2 ^ place) i) in
      let f = bit_at_mask_inside place 64 i h l in
      omega arith

  before_it : (i : ℕ) → i < place → bit_at rest i ≡ 0
  before_it i h =
      let e : bit_at rest i ≡ min (bit_at word i) (bit_at (2 ^ 64 - 2 ^ place) i) =
      rw is (bit_at_and word (2 ^ 64 - 2 ^ place) i) in
      let f = bit_at_mask_below place 64 i h in
      omega arith

  pub lowest_is : 0 < rest → rest < 2 ^ 64 → IsLowest word place (trailing_zeros w64 rest)
  lowest_is some fits =
      let t = bit_at-trailing_zeros w64 rest some fits in
      let k : ℕ = trailing_zeros w64 rest in
      let o : place ≤ k = elim (cases_lt k place) [
        | inl h ↦ let z = before_it k h in let s = t.1 in absurd (omega arith)
        | inr h ↦ h
      ] in
      let l : k < 64 = t.0 in
      record {
        small = l;
        order = o;
        is_set = sym (from_on k o l) ∙ t.1;
        none = λ i h m. sym (from_on i h (omega arith)) ∙ t.2 i m;
      }

  pub none_from : rest ≡ 0 → (i : ℕ) → place ≤ i → bit_at word i ≡ 0
  none_from e i h = elim (cases_lt i 64) [
    | inl l ↦ sym (from_on i h l) ∙ rw e (bit_at-zero i)
    | inr l ↦ bit_at_above word 64 i small l
  ]

top_bit : (n j : ℕ) → 2 ^ j ≤ n → n < 2 ^ suc j → bit_at n j ≡ 1
top_bit n j lo hi =
    let p = pow_pos j in
    let a : 1 ≤ n / 2 ^ j = le-div 1 n (2 ^ j) p (omega arith) in
    let b : n / 2 ^ j < 2 = div_below n (2 ^ j) 2 p (omega arith) in
    let e : n / 2 ^ j ≡ 1 = omega arith in
    rw e refl

-- the highest bit of a word that isn't 0
pub highest_is : (word : ℕ) → 0 < word → word < 2 ^ 64 → IsHighest word 64 (63 - leading_zeros w64 word)
highest_is word some fits =
    let t = leading_top 64 word some fits in
    let j : ℕ = t.0 in
    let s = t.1 in
    let e : j ≡ 63 - leading_zeros w64 word = omega arith in
    subst (IsHighest word 64) e (record {
      order = omega arith;
      is_set = top_bit word j t.2 t.3;
      none = λ i h m. bit_at_above word (suc j) i t.3 (omega arith);
    })

-- what is left of a word below a place
module _ (word place rest : ℕ) (p : place < 64) (is : rest ≡ bit_and word (2 ^ place - 1)) where
  below_it : (i : ℕ) → i < place → bit_at rest i ≡ bit_at word i
  below_it i h =
      let b = bit_at-lt word i in
      let e : bit_at rest i ≡ min (bit_at word i) (bit_at (2 ^ place - 1) i) =
      rw is (bit_at_and word (2 ^ place - 1) i) in
      let f = bit_at_ones place i h in
      omega arith

  not_from : (i : ℕ) → place ≤ i → bit_at rest i ≡ 0
  not_from i h =
      let e : bit_at rest i ≡ min (bit_at word i) (bit_at (2 ^ place - 1) i) =
      rw is (bit_at_and word (2 ^ place - 1) i) in
      let f = bit_at_ones_above place i h in
      omega arith

  pub highest_of : (k : ℕ) → IsHighest rest 64 k → IsHighest word place k
  highest_of k h =
      let o : k < place = elim (cases_lt k place) [
        | inl l ↦ l
        | inr l ↦ let z = not_from k l in let s = h.is_set in absurd (omega arith)
      ] in
      record {
        order = o;
        is_set = sym (below_it k o) ∙ h.is_set;
        none = λ i l m. sym (below_it i m) ∙ h.none i l (omega arith);
      }

  pub none_below : rest ≡ 0 → (i : ℕ) → i < place → bit_at word i ≡ 0
  none_below e i h = sym (below_it i h) ∙ rw e (bit_at-zero i)

-- a word without bits is 0
pub no_bits : (word : ℕ) → ((i : ℕ) → 0 ≤ i → bit_at word i ≡ 0) → word ≡ 0
no_bits word h = same_from_bits word 0 (λ i. h i (omega arith) ∙ sym (bit_at-zero i))
