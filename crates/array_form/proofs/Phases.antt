-- The phases of a latch as numbers, and the segments of a band by number, for all crates above.
use Rattle.std.proofs.Common.{◌<◌, arith, ◌≡◌, refl, ℕ, ◌+◌, inl, inr}
use Rattle.std.proofs.lemmas.Bool.{cases_lt, cases_eq}
use Rattle.nor_net.specs.declared.net.Phase.{Phase}
use Rattle.nor_net.specs.declared.net.Phase.TheVariants.{A, B, C}
use Rattle.array_form.specs.Homes.{phase_number}

pub phase_small : (ph : Phase) → phase_number ph < 3
phase_small A = omega arith
phase_small B = omega arith
phase_small C = omega arith

pub one_phase : (p q : Phase) → phase_number p ≡ phase_number q → p ≡ q
one_phase A A e = refl
one_phase A B e = absurd (omega arith)
one_phase A C e = absurd (omega arith)
one_phase B A e = absurd (omega arith)
one_phase B B e = refl
one_phase B C e = absurd (omega arith)
one_phase C A e = absurd (omega arith)
one_phase C B e = absurd (omega arith)
one_phase C C e = refl

-- segment k is the one of a net, or of a phase
pub data IsSegmentOf (nets k : ℕ) : Type 0 where
  for_net : k < nets → IsSegmentOf nets k
  for_phase : (ph : Phase) → k ≡ nets + phase_number ph → IsSegmentOf nets k

pub segment_of_number : (nets k : ℕ) → k < nets + 3 → IsSegmentOf nets k
segment_of_number nets k h = elim (cases_lt k nets) [
  | inl lt ↦ for_net lt
  | inr ge ↦ elim (cases_eq k nets) [
    | inl e ↦ for_phase A (omega arith)
    | inr e ↦ elim (cases_eq k (nets + 1)) [ inl d ↦ for_phase B (omega arith) | inr d ↦ for_phase C (omega arith) ]
  ]
]

pub phase_of : (j : ℕ) → j < 3 → (ph : Phase) × (phase_number ph ≡ j)
phase_of j h = elim (cases_eq j 0) [
  | inl e ↦ (A, omega arith)
  | inr e ↦ elim (cases_eq j 1) [ inl d ↦ (B, omega arith) | inr d ↦ (C, omega arith) ]
]
