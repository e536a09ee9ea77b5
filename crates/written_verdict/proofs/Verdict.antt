-- A program breaks no rule as it is written, or has a first broken rule.
use Rattle.std.proofs.Common.{◌≡◌, ◌⊎◌, inl, inr, ℕ, zero, suc, ◌<◌, ◌≤◌, sym, subst, arith}
use Rattle.std.specs.Prelude.{◌↔◌}
use Rattle.std.proofs.lemmas.Bool.{cases_lt}
use Rattle.mp_base.specs.declared.refusal.Place.{Place}
use Rattle.mp_base.proofs.Decisions.{Decided, is_number}
use Rattle.mp_program.specs.declared.program.Program as plain
use Rattle.mp_program.specs.Reads.{Chain}
use Rattle.mp_program.specs.Sound.{IsSound}
use Rattle.mp_verdict.proofs.Deciding.{First, nowhere, earliest, either_place, where_so, same_places}
use Rattle.mp_verdict.proofs.Ruled as frame
use Rattle.mp_written.specs.declared.program.Program.{Program}
use Rattle.written_frame.specs.SameRules.{HaveSameRules}
use Rattle.written_rules.specs.Breaking.{Breaks, IsUnbroken, IsUnbrokenBelow, IsFirst}
use Rattle.written_verdict.proofs.Ruled.{rule21, rule22, rule27, rule37, rule38, rule39, rule44, rule45}

numbered : {P : Place → Type 0} (k n : ℕ) → First P → First (λ at. (k ≡ n) × P at)
numbered k n h = where_so (is_number k n) h

-- the same of the frame
framed : {P Q : Place → Type 0} (k n : ℕ) → First P → ((at : Place) → P at ↔ Q at) → First (λ at. (k ≡ n) × Q at)
framed k n h same = numbered k n (same_places h (λ at p. (same at).0 p) (λ at q. (same at).1 q))

lower : {A B : Type 0} (k n : ℕ) → n < 46 → (B → k < 46) → ((k ≡ n) × A) ⊎ B → k < 46
lower k n lt rest (inl (same, h)) = omega (arith, same, lt)
lower k n lt rest (inr h) = rest h

module _ (w : Program) (s : plain.Program) (same : HaveSameRules w s) (sound : IsSound s)
    (chains : (a b : ℕ) → Decided (Chain s a b)) where
  breaks_first : (k : ℕ) → First (Breaks w k)
  breaks_first k =
      either_place (framed k 20 (frame.rule20 s) same.e20) (
      either_place (numbered k 21 (rule21 w)) (
      either_place (numbered k 22 (rule22 w)) (
      either_place (framed k 23 (frame.rule23 s) same.e23) (
      either_place (framed k 24 (frame.rule24 s) same.e24) (
      either_place (framed k 25 (frame.rule25 s) same.e25) (
      either_place (framed k 26 (frame.rule26 s) same.e26) (
      either_place (numbered k 27 (rule27 w)) (
      either_place (framed k 28 (frame.rule28 s sound) same.e28) (
      either_place (framed k 29 (frame.rule29 s) same.e29) (
      either_place (framed k 30 (frame.rule30 s sound) same.e30) (
      either_place (framed k 31 (frame.rule31 s sound) same.e31) (
      either_place (framed k 32 (frame.rule32 s sound) same.e32) (
      either_place (framed k 33 (frame.rule33 s chains) same.e33) (
      either_place (framed k 34 (frame.rule34 s) same.e34) (
      either_place (framed k 35 (frame.rule35 s) same.e35) (
      either_place (framed k 36 (frame.rule36 s) same.e36) (
      either_place (numbered k 37 (rule37 w)) (
      either_place (numbered k 38 (rule38 w)) (
      either_place (numbered k 39 (rule39 w)) (
      either_place (framed k 40 (frame.rule40 s) same.e40) (
      either_place (framed k 41 (frame.rule41 s) same.e41) (
      either_place (framed k 42 (frame.rule42 s) same.e42) (
      either_place (framed k 43 (frame.rule43 s) same.e43) (
      either_place (numbered k 44 (rule44 w)) (
      numbered k 45 (rule45 w))))))))))))))))))))))))))

  numbered_below : (k : ℕ) (at : Place) → Breaks w k at → k < 46
  numbered_below k at =
      lower k 20 (omega arith) (
      lower k 21 (omega arith) (
      lower k 22 (omega arith) (
      lower k 23 (omega arith) (
      lower k 24 (omega arith) (
      lower k 25 (omega arith) (
      lower k 26 (omega arith) (
      lower k 27 (omega arith) (
      lower k 28 (omega arith) (
      lower k 29 (omega arith) (
      lower k 30 (omega arith) (
      lower k 31 (omega arith) (
      lower k 32 (omega arith) (
      lower k 33 (omega arith) (
      lower k 34 (omega arith) (
      lower k 35 (omega arith) (
      lower k 36 (omega arith) (
      lower k 37 (omega arith) (
      lower k 38 (omega arith) (
      lower k 39 (omega arith) (
      lower k 40 (omega arith) (
      lower k 41 (omega arith) (
      lower k 42 (omega arith) (
      lower k 43 (omega arith) (
      lower k 44 (omega arith) (
      λ (same, h). omega (arith, same))))))))))))))))))))))))))

  next_rule : (n : ℕ) → IsUnbrokenBelow n w → First (Breaks w n) → IsUnbrokenBelow (suc n) w
      ⊎ ((k : ℕ) × (at : Place) × IsFirst w k at)
  next_rule n none (nowhere absent) = inl (λ l at lt broken. elim (cases_lt l n) [
    | inl below ↦ none l at below broken
    | inr from ↦ (let same : l ≡ n = omega (arith, lt, from) in absent at (subst (λ k. Breaks w k at) same broken))
  ])
  next_rule n none (earliest at broken least) = inr (n, at, record { broken = broken; first = after })
    where
      after : (l : ℕ) (there : Place) → Breaks w l there → (n < l) ⊎ ((n ≡ l) × (at.offset ≤ there.offset))
      after l there other = elim (cases_lt l n) [
        | inl below ↦ absurd (none l there below other)
        | inr from ↦ elim (cases_lt n l) [
          | inl above ↦ inl above
          | inr upto ↦ (let same : n ≡ l = omega (arith, from, upto) in inr
              (same, least there (subst (λ k. Breaks w k there) (sym same) other)))
        ]
      ]

  judged_below : (n : ℕ) → IsUnbrokenBelow n w ⊎ ((k : ℕ) × (at : Place) × IsFirst w k at)
  judged_below zero = inl (λ l at lt. absurd (omega (arith, lt)))
  judged_below (suc n) = elim (judged_below n) [ inl none ↦ next_rule n none (breaks_first n) | inr found ↦ inr found ]

  pub verdict : IsUnbroken w ⊎ ((k : ℕ) × (at : Place) × IsFirst w k at)
  verdict = elim (judged_below 46) [
    | inl none ↦ inl (λ k at broken. none k at (numbered_below k at broken) broken)
    | inr found ↦ inr found
  ]
