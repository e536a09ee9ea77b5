-- Bits of operators as bits of gates.
use Rattle.std.proofs.Common.{◌≡◌, ℕ, zero, suc, ◌+◌, ◌-◌, ◌<◌, List, [], ◌∷◌, Bool, true, false, map, refl, ◌∙◌, ap}
use Rattle.std.proofs.Common.{arith, cond}
use Rattle.std.specs.Prelude.{All, not, ◌&&◌, ◌||◌, ◌==◌, nat_lt}
use Rattle.std.specs.List.{list_all, list_any}
use Rattle.mp_base.specs.Apply.{truth}
use Rattle.nor_net.specs.Laws.{bit}
use Rattle.nor_net.specs.Settled.{nor_value}
use Rattle.nor_net.proofs.Values.{nor_bits}

pub truth_one : (b : Bool) → (truth b == 1) ≡ b
truth_one true = refl
truth_one false = refl

-- ---- each element 0 or 1

abbrev pub AreBits : (ℕ → ℕ) → List ℕ → Type 0
AreBits value ks = All (λ k. value k < 2) ks

module _ (value : ℕ → ℕ) where
  tail_bits : (k : ℕ) (ks : List ℕ) → AreBits value (k ∷ ks) → AreBits value ks
  tail_bits k ks h i d l = h (suc i) d (omega arith)

  -- the NOR of negations is the AND
  pub all_ones : (ks : List ℕ) → list_all (λ k. cond (not (value k == 1)) false true) ks
      ≡ list_all (λ x. x == 1) (map value ks)
  all_ones [] = refl
  all_ones (k ∷ ks) = by_head (value k == 1) (all_ones ks)
    where
      by_head : (b : Bool) → list_all (λ k. cond (not (value k == 1)) false true) ks
          ≡ list_all (λ x. x == 1) (map value ks)
          → (cond (not b) false true && list_all (λ k. cond (not (value k == 1)) false true) ks)
          ≡ (b && list_all (λ x. x == 1) (map value ks))
      by_head true e = e
      by_head false e = refl

  pub all_zeros : (ks : List ℕ) → AreBits value ks
      → list_all (λ k. cond (value k == 1) false true) ks ≡ list_all (λ x. x == 0) (map value ks)
  all_zeros [] h = refl
  all_zeros (k ∷ ks) h = by_head (value k) (h 0 k (omega arith)) (all_zeros ks (tail_bits k ks h))
    where
      by_head : (n : ℕ) → n < 2
          → list_all (λ k. cond (value k == 1) false true) ks ≡ list_all (λ x. x == 0) (map value ks)
          → (cond (n == 1) false true && list_all (λ k. cond (value k == 1) false true) ks)
          ≡ ((n == 0) && list_all (λ x. x == 0) (map value ks))
      by_head zero l e = e
      by_head (suc zero) l e = refl
      by_head (suc (suc n)) l e = absurd (omega arith)

  pub some_one : (ks : List ℕ) → AreBits value ks
      → not (list_all (λ x. x == 0) (map value ks)) ≡ list_any (λ x. x == 1) (map value ks)
  some_one [] h = refl
  some_one (k ∷ ks) h = by_head (value k) (h 0 k (omega arith)) (some_one ks (tail_bits k ks h))
    where
      by_head : (n : ℕ) → n < 2
          → not (list_all (λ x. x == 0) (map value ks)) ≡ list_any (λ x. x == 1) (map value ks)
          → not ((n == 0) && list_all (λ x. x == 0) (map value ks))
          ≡ ((n == 1) || list_any (λ x. x == 1) (map value ks))
      by_head zero l e = e
      by_head (suc zero) l e = refl
      by_head (suc (suc n)) l e = absurd (omega arith)

  pub some_zero : (ks : List ℕ) → AreBits value ks
      → not (list_all (λ x. x == 1) (map value ks)) ≡ list_any (λ x. x == 0) (map value ks)
  some_zero [] h = refl
  some_zero (k ∷ ks) h = by_head (value k) (h 0 k (omega arith)) (some_zero ks (tail_bits k ks h))
    where
      by_head : (n : ℕ) → n < 2
          → not (list_all (λ x. x == 1) (map value ks)) ≡ list_any (λ x. x == 0) (map value ks)
          → not ((n == 1) && list_all (λ x. x == 1) (map value ks))
          ≡ ((n == 0) || list_any (λ x. x == 0) (map value ks))
      by_head zero l e = refl
      by_head (suc zero) l e = e
      by_head (suc (suc n)) l e = absurd (omega arith)

  -- in the terms of gates
  pub nor_of_negations : (ks : List ℕ)
      → nor_value (map (λ k. bit (not (value k == 1))) ks) ≡ bit (list_all (λ x. x == 1) (map value ks))
  nor_of_negations ks = nor_bits (λ k. not (value k == 1)) ks ∙ ap bit (all_ones ks)

  pub nor_of_bits : (ks : List ℕ) → AreBits value ks
      → nor_value (map (λ k. bit (value k == 1)) ks) ≡ bit (list_all (λ x. x == 0) (map value ks))
  nor_of_bits ks h = nor_bits (λ k. value k == 1) ks ∙ ap bit (all_zeros ks h)

pub exclusive_or : (x y : ℕ) → x < 2 → y < 2
    → nor_value (nor_value (bit (x == 1) ∷ bit (y == 1) ∷ []) ∷ nor_value
    (bit (not (x == 1)) ∷ bit (not (y == 1)) ∷ []) ∷ [])
    ≡ bit ((truth (nat_lt x y) + truth (nat_lt y x)) == 1)
exclusive_or zero zero l m = refl
exclusive_or zero (suc zero) l m = refl
exclusive_or (suc zero) zero l m = refl
exclusive_or (suc zero) (suc zero) l m = refl
exclusive_or zero (suc (suc y)) l m = absurd (omega arith)
exclusive_or (suc zero) (suc (suc y)) l m = absurd (omega arith)
exclusive_or (suc (suc x)) y l m = absurd (omega arith)

pub negation_of : (x : ℕ) → x < 2 → not (x == 1) ≡ ((1 - x) == 1)
negation_of zero l = refl
negation_of (suc zero) l = refl
negation_of (suc (suc x)) l = absurd (omega arith)
