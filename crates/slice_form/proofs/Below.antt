-- Tests that some number below a count passes, for all crates above.
use Rattle.std.proofs.Common.{ℕ, Bool, ◌<◌, ◌≡◌, true, zero, arith, suc, inl, ap, cond, inr, ◌∙◌}
use Rattle.std.proofs.Common.{false, sym}
use Rattle.std.proofs.lemmas.Bool.{cases_Bool, cases_lt, true≢false}
use Rattle.mp_base.proofs.Tests.{false_true}
use Rattle.slice_form.specs.Slices.{any_below}

pub below_any : (test : ℕ → Bool) (n j : ℕ) → j < n → test j ≡ true → any_below test n ≡ true
below_any test zero j lt e = absurd (omega arith)
below_any test (suc n) j lt e = elim (cases_Bool (test n)) [
  | inl q ↦ ap (λ t. cond t true (any_below test n)) q
  | inr q ↦ ap (λ t. cond t true (any_below test n)) q ∙ below_any test n j (go q) e
]
  where
    go : test n ≡ false → j < n
    go q = elim (cases_lt j n) [
      | inl l ↦ l
      | inr g ↦ (let s : j ≡ n = omega arith in absurd (false_true (sym q ∙ (ap test (sym s) ∙ e))))
    ]

pub below_member : (test : ℕ → Bool) (n : ℕ) → any_below test n ≡ true → (j : ℕ) × (j < n) × (test j ≡ true)
below_member test zero e = absurd (true≢false (sym e))
below_member test (suc n) e = elim (cases_Bool (test n)) [
  | inl t ↦ (n, omega arith, t)
  | inr t ↦ (let w = below_member test n (sym (ap (λ b. cond b true (any_below test n)) t) ∙ e) in
      (w.0, (let m = w.1 in omega (arith, m)), w.2))
]
