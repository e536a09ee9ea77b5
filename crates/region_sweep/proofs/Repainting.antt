-- Rows that get the colours of the next one, run by run.
use Rattle.std.proofs.Common.{ℕ, zero, suc, ◌≡◌, ◌+◌, ◌<◌, ◌≤◌, ◌⊎◌, List, inl, inr, refl, sym, ◌∙◌, subst}
use Rattle.std.proofs.Common.{arith, length, eq-or-lt_of_le}
use Rattle.std.proofs.lemmas.Bool.{cases_lt}
use Rattle.mask_runs.specs.declared.run.Run.{Run}
use Rattle.kept_runs.specs.declared.runs.KeptRuns.{KeptRuns}
use Rattle.kept_runs.specs.Kept.{colours_of}
use Rattle.strip_rows.specs.Missing.{run, no_run}
use Rattle.row_windows.specs.Windows.{Touches, ChangeAt}
use Rattle.region_sweep.specs.Repainting.{HaveColours, IsRepainted}

-- the cell is between these
abbrev pub Between : ℕ → ℕ → ℕ → Type 0
Between from to c = (from ≤ c) × (c < to)

between_or_not : (from to c : ℕ) → Between from to c ⊎ ((c < from) ⊎ (to ≤ c))
between_or_not from to c = elim (cases_lt c from) [
  | inl l ↦ inr (inl l)
  | inr l ↦ elim (cases_lt c to) [ inl m ↦ inl (l, m) | inr m ↦ inr (inr m) ]
]

-- the first runs are repainted
pub record IsRepainting (colour : ℕ → ℕ) (old now : KeptRuns) (runs : List Run) (n : ℕ) : Type 0 where
  pub touched : (k c : ℕ) → k < n → Between (run runs k).left (run runs k).right c
      → colours_of now c ≡ colour c
  pub others : (c : ℕ) → ((k : ℕ) → k < n → ¬ Between (run runs k).left (run runs k).right c)
      → colours_of now c ≡ colours_of old c

pub repainting_none : (colour : ℕ → ℕ) (old : KeptRuns) (runs : List Run)
    → IsRepainting colour old old runs 0
repainting_none colour old runs =
    record { touched = λ k c l. absurd (omega arith); others = λ c n. refl }

pub repainting_more : (colour : ℕ → ℕ) (old mid now : KeptRuns) (runs : List Run) (n : ℕ) → n < length runs
    → HaveColours colour runs → IsRepainting colour old mid runs n
    → ((c : ℕ) → (run runs n).left ≤ c → c < (run runs n).right
    → colours_of now c ≡ (run runs n).colour)
    → ((c : ℕ) → (c < (run runs n).left) ⊎ ((run runs n).right ≤ c)
    → colours_of now c ≡ colours_of mid c)
    → IsRepainting colour old now runs (n + 1)
repainting_more colour old mid now runs n m have p own else = record {
  touched = λ k c l b. elim (between_or_not (run runs n).left (run runs n).right c) [
    | inl i ↦ own c i.0 i.1 ∙ sym (have n no_run m c i.0 i.1)
    | inr o ↦ elim (eq-or-lt_of_le {n = k} {m = n} (omega arith)) [
      | inl e ↦
          let q = subst (λ j. Between (run runs j).left (run runs j).right c) e b in
          let q0 = q.0 in
          let q1 = q.1 in
          elim o [ inl x ↦ absurd (omega arith) | inr x ↦ absurd (omega arith) ]
      | inr q ↦ else c o ∙ p.touched k c q b
    ]
  ];
  others = λ c f. elim (between_or_not (run runs n).left (run runs n).right c) [
    | inl i ↦ absurd (f n (omega arith) i)
    | inr o ↦ else c o ∙ p.others c (λ k l. f k (omega arith))
  ];
}

pub repainted_all : (colour : ℕ → ℕ) (old now : KeptRuns) (runs : List Run)
    → IsRepainting colour old now runs (length runs)
    → IsRepainted colour old now runs
repainted_all colour old now runs p = record {
  touched = λ c t. p.touched t.place c t.among (t.from, t.to);
  others = λ c n. p.others c (λ k l b. n (record { place = k; among = l; from = b.0; to = b.1 }));
}

touched_or_not : (runs : List Run) (c n : ℕ) → n ≤ length runs
    → Touches runs c ⊎ ((k : ℕ) → k < n → ¬ Between (run runs k).left (run runs k).right c)
touched_or_not runs c zero l = inr (λ k m. absurd (omega arith))
touched_or_not runs c (suc n) l = elim (touched_or_not runs c n (omega arith)) [
  | inl t ↦ inl t
  | inr f ↦ elim (between_or_not (run runs n).left (run runs n).right c) [
    | inl b ↦ inl (record { place = n; among = omega arith; from = b.0; to = b.1 })
    | inr o ↦ inr (λ k m b. elim (eq-or-lt_of_le {n = k} {m = n} (omega arith)) [
      | inl e ↦
          let q = subst (λ j. Between (run runs j).left (run runs j).right c) e b in
          let q0 = q.0 in
          let q1 = q.1 in
          elim o [ inl x ↦ absurd (omega arith) | inr x ↦ absurd (omega arith) ]
      | inr p ↦ f k p b
    ])
  ]
]

-- the row gets the colours of the next one
pub next_kept : (old_row new_row : ℕ → ℕ) (old now : KeptRuns) (changed : List Run)
    → ((c : ℕ) → old_row c ≡ colours_of old c) → ChangeAt changed old_row new_row → IsRepainted new_row old now changed
    → (c : ℕ) → new_row c ≡ colours_of now c
next_kept old_row new_row old now changed h at r c = elim (touched_or_not changed c (length changed) (omega arith)) [
  | inl t ↦ sym (r.touched c t)
  | inr f ↦ let n : ¬ Touches changed c = λ t. f t.place t.among (t.from, t.to) in
      sym (at c n) ∙ h c ∙ sym (r.others c n)
]
