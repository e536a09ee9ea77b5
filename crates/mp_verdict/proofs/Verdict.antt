-- A program breaks no rule, or has a first broken rule.
use Rattle.std.proofs.Common.{◌≡◌, ◌⊎◌, inl, inr, ℕ, zero, suc, ◌<◌, ◌≤◌, sym, subst, arith}
use Rattle.std.proofs.lemmas.Bool.{cases_lt}
use Rattle.mp_base.specs.declared.refusal.Place.{Place}
use Rattle.mp_base.proofs.Decisions.{Decided, is_number}
use Rattle.mp_program.specs.declared.program.Program.{Program}
use Rattle.mp_program.specs.Reads.{Chain}
use Rattle.mp_program.specs.Sound.{IsSound}
use Rattle.mp_rules.specs.Breaking.{Breaks, IsUnbroken, IsUnbrokenBelow, IsFirst}
use Rattle.mp_verdict.proofs.Deciding.{First, nowhere, earliest, either_place, where_so}
use Rattle.mp_verdict.proofs.Ruled.{rule20, rule21, rule22, rule23, rule24, rule25, rule26, rule27, rule28, rule29}
use Rattle.mp_verdict.proofs.Ruled.{rule30, rule31, rule32, rule33, rule34, rule35, rule36, rule40, rule41, rule42}
use Rattle.mp_verdict.proofs.Ruled.{rule43, rule44, rule45}

numbered : {P : Place → Type 0} (k n : ℕ) → First P → First (λ at. (k ≡ n) × P at)
numbered k n h = where_so (is_number k n) h

lower : {A B : Type 0} (k n : ℕ) → n < 46 → (B → k < 46) → ((k ≡ n) × A) ⊎ B → k < 46
lower k n lt rest (inl (same, h)) = omega (arith, same, lt)
lower k n lt rest (inr h) = rest h

module _ (p : Program) (sound : IsSound p) (chains : (a b : ℕ) → Decided (Chain p a b)) where
  breaks_first : (k : ℕ) → First (Breaks p k)
  breaks_first k =
      either_place (numbered k 20 (rule20 p)) (
      either_place (numbered k 21 (rule21 p)) (
      either_place (numbered k 22 (rule22 p)) (
      either_place (numbered k 23 (rule23 p)) (
      either_place (numbered k 24 (rule24 p)) (
      either_place (numbered k 25 (rule25 p)) (
      either_place (numbered k 26 (rule26 p)) (
      either_place (numbered k 27 (rule27 p)) (
      either_place (numbered k 28 (rule28 p sound)) (
      either_place (numbered k 29 (rule29 p)) (
      either_place (numbered k 30 (rule30 p sound)) (
      either_place (numbered k 31 (rule31 p sound)) (
      either_place (numbered k 32 (rule32 p sound)) (
      either_place (numbered k 33 (rule33 p chains)) (
      either_place (numbered k 34 (rule34 p)) (
      either_place (numbered k 35 (rule35 p)) (
      either_place (numbered k 36 (rule36 p)) (
      either_place (numbered k 40 (rule40 p)) (
      either_place (numbered k 41 (rule41 p)) (
      either_place (numbered k 42 (rule42 p)) (
      either_place (numbered k 43 (rule43 p)) (
      either_place (numbered k 44 (rule44 p)) (
      numbered k 45 (rule45 p)))))))))))))))))))))))

  numbered_below : (k : ℕ) (at : Place) → Breaks p k at → k < 46
  numbered_below k at =
      lower k 20 (omega arith) (
      lower k 21 (omega arith) (
      lower k 22 (omega arith) (
      lower k 23 (omega arith) (
      lower k 24 (omega arith) (
      lower k 25 (omega arith) (
      lower k 26 (omega arith) (
      lower k 27 (omega arith) (
      lower k 28 (omega arith) (
      lower k 29 (omega arith) (
      lower k 30 (omega arith) (
      lower k 31 (omega arith) (
      lower k 32 (omega arith) (
      lower k 33 (omega arith) (
      lower k 34 (omega arith) (
      lower k 35 (omega arith) (
      lower k 36 (omega arith) (
      lower k 40 (omega arith) (
      lower k 41 (omega arith) (
      lower k 42 (omega arith) (
      lower k 43 (omega arith) (
      lower k 44 (omega arith) (
      λ (same, h). omega (arith, same)))))))))))))))))))))))

  next_rule : (n : ℕ) → IsUnbrokenBelow n p → First (Breaks p n) → IsUnbrokenBelow (suc n) p
      ⊎ ((k : ℕ) × (at : Place) × IsFirst p k at)
  next_rule n none (nowhere absent) = inl (λ l at lt broken. elim (cases_lt l n) [
    | inl below ↦ none l at below broken
    | inr from ↦ (let same : l ≡ n = omega (arith, lt, from) in absent at (subst (λ k. Breaks p k at) same broken))
  ])
  next_rule n none (earliest at broken least) = inr (n, at, record { broken = broken; first = after })
    where
      after : (l : ℕ) (there : Place) → Breaks p l there → (n < l) ⊎ ((n ≡ l) × (at.offset ≤ there.offset))
      after l there other = elim (cases_lt l n) [
        | inl below ↦ absurd (none l there below other)
        | inr from ↦ elim (cases_lt n l) [
          | inl above ↦ inl above
          | inr upto ↦ (let same : n ≡ l = omega (arith, from, upto) in inr
              (same, least there (subst (λ k. Breaks p k there) (sym same) other)))
        ]
      ]

  judged_below : (n : ℕ) → IsUnbrokenBelow n p ⊎ ((k : ℕ) × (at : Place) × IsFirst p k at)
  judged_below zero = inl (λ l at lt. absurd (omega (arith, lt)))
  judged_below (suc n) = elim (judged_below n) [ inl none ↦ next_rule n none (breaks_first n) | inr found ↦ inr found ]

  pub verdict : IsUnbroken p ⊎ ((k : ℕ) × (at : Place) × IsFirst p k at)
  verdict = elim (judged_below 46) [
    | inl none ↦ inl (λ k at broken. none k at (numbered_below k at broken) broken)
    | inr found ↦ inr found
  ]
