-- Numbers below a count that pass a test, for all crates above.
use Rattle.std.proofs.Common.{ℕ, Bool, ◌+◌, ◌≡◌, cond, subst, suc, arith, ◌<◌, zero, refl, ap, ◌∙◌}
use Rattle.array_form.specs.Homes.{count_below}

-- how many pass with one number more
pub count_more : (test : ℕ → Bool) (n : ℕ) → count_below test (n + 1) ≡ count_below test n + cond (test n) 1 0
count_more test n =
    subst (λ z. count_below test z ≡ count_below test n + cond (test n) 1 0) (let e : suc n ≡ n + 1 = omega arith in
    e) (omega arith)

-- tests that agree below a number count the same
pub count_same : (test other : ℕ → Bool) (n : ℕ) → ((i : ℕ) → i < n → test i ≡ other i)
    → count_below test n ≡ count_below other n
count_same test other zero h = refl
count_same test other (suc n) h =
    ap (λ t. cond t 1 0 + count_below test n) (h n (omega arith))
    ∙ ap (λ z. cond (other n) 1 0 + z) (count_same test other n (λ i lt. h i (omega arith)))
