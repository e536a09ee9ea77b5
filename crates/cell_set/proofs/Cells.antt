-- Cells as leaves.
use Rattle.std.proofs.Common.{◌≡◌, ◌==◌, ℕ, ◌+◌, ◌/◌, ◌%◌, Bool, true, false, inl, inr, List, replicate, sym, ◌∙◌}
use Rattle.std.proofs.Common.{subst, arith}
use Rattle.std.specs.Int.{bit_at}
use Rattle.std.proofs.lemmas.Bool.{cases_Bool, cases_lt, eq-eqb, ne_eqb, eqb-true, eqb-false}
use Rattle.std.proofs.lemmas.List.{get_or-replicate, get_or_past, length-replicate}
use Rattle.std.proofs.lemmas.Nat.Bits.{bit_at-zero}
use Rattle.cell_set.specs.Tree.{word_at, IsMarked, AreNoted}

abbrev pub test : List ℕ → ℕ → Bool
test words i = bit_at (word_at words (i / 64)) (i % 64) == 1

pub tested : (words : List ℕ) (i : ℕ) → IsMarked words i → test words i ≡ true
tested words i m = eq-eqb _ _ m.bit

pub untested : (words : List ℕ) (i : ℕ) → (¬ IsMarked words i) → test words i ≡ false
untested words i n = ne_eqb _ _ (λ e. n (record { bit = e }))

pub same_test : (old now : List ℕ) (i : ℕ) → (IsMarked old i → IsMarked now i) → (IsMarked now i → IsMarked old i)
    → test now i ≡ test old i
same_test old now i f g = elim (cases_Bool (test old i)) [
  | inl e ↦ tested now i (f (record { bit = eqb-true _ _ e })) ∙ sym e
  | inr e ↦ untested now i (λ m. eqb-false _ _ e (g m).bit) ∙ sym e
]

blank_word : (n k : ℕ) → word_at (replicate n 0) k ≡ 0
blank_word n k = elim (cases_lt k n) [
  | inl h ↦ get_or-replicate n k 0 0 h
  | inr h ↦ get_or_past (replicate n 0) k 0 (rw (length-replicate {A = ℕ} n 0) h)
]

pub blank_unmarked : (n i : ℕ) → ¬ IsMarked (replicate n 0) i
blank_unmarked n i m =
    let e : bit_at 0 (i % 64) ≡ 1 = subst (λ w. bit_at w (i % 64) ≡ 1) (blank_word n (i / 64)) m.bit in
    let z = bit_at-zero (i % 64) in
    absurd (omega arith)

pub blank_noted : (n : ℕ) → AreNoted (replicate n 0)
blank_noted n =
    record {
      each = λ i _. let z = blank_word n (i + 1) in
          ((λ m. absurd (blank_unmarked n i m)), (λ h. absurd (omega arith)));
    }
