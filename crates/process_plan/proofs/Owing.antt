-- What the forms of a process count together, while they get their enables.
use Rattle.std.proofs.Common.{
  ◌≡◌,
  ◌≢◌,
  ℕ,
  zero,
  suc,
  ◌+◌,
  ◌<◌,
  ◌≤◌,
  List,
  [],
  ◌∷◌,
  Bool,
  false,
  cond,
  Option,
  Some,
  None,
  refl,
  ap,
  arith,
  length,
}
use Rattle.std.specs.Prelude.{slice_set, slice_index_or, ◌==◌}
use Rattle.process_plan.specs.Active.{Origin, Always, At}
use Rattle.process_plan.specs.Enables.{Enable}

abbrev pub begins : ℕ → Origin → Bool
begins k Always = false
begins k (At j i) = j == k

-- a form of process k
abbrev pub owns : ℕ → Option Enable → Bool
owns k None = false
owns k (Some x) = begins k x.origin

-- the sum of c over the forms of process k that have enables, from the index at on
abbrev pub owed : (ℕ → ℕ) → ℕ → ℕ → List (Option Enable) → ℕ
owed c k at [] = 0
owed c k at (x ∷ xs) = cond (owns k x) (c at) 0 + owed c k (suc at) xs

-- a form that gets its enable adds what it counts
pub owed_set : (c : ℕ → ℕ) (k at : ℕ) (xs : List (Option Enable)) (f : ℕ) (x : Enable) → f < length xs
    → slice_index_or xs f (Some x) ≡ None
    → owed c k at (slice_set xs f (Some x)) ≡ owed c k at xs + cond (owns k (Some x)) (c (at + f)) 0
owed_set c k at [] f x lt none = absurd (omega (arith, lt))
owed_set c k at (y ∷ ys) zero x lt none =
    let before : cond (owns k y) (c at) 0 ≡ 0 = ap (λ z. cond (owns k z) (c at) 0) none in
    let e : at + 0 ≡ at = omega arith in
    let same : cond (owns k (Some x)) (c (at + 0)) 0 ≡ cond (owns k (Some x)) (c at) 0 =
    ap (λ n. cond (owns k (Some x)) (c n) 0) e in
    omega (arith, before, same)
owed_set c k at (y ∷ ys) (suc f) x lt none =
    let rest = owed_set c k (suc at) ys f x (omega (arith, lt)) none in
    let e : suc at + f ≡ at + suc f = omega arith in
    let same : cond (owns k (Some x)) (c (suc at + f)) 0 ≡ cond (owns k (Some x)) (c (at + suc f)) 0 =
    ap (λ n. cond (owns k (Some x)) (c n) 0) e in
    omega (arith, rest, same)

same_behind : (c d : ℕ → ℕ) (k at : ℕ) (xs : List (Option Enable)) → ((j : ℕ) → at ≤ j → c j ≡ d j)
    → owed c k at xs ≡ owed d k at xs
same_behind c d k at [] h = refl
same_behind c d k at (x ∷ xs) h =
    let now : cond (owns k x) (c at) 0 ≡ cond (owns k x) (d at) 0 =
    ap (λ n. cond (owns k x) n 0) (h at (omega arith)) in
    let rest = same_behind c d k (suc at) xs (λ j le. h j (omega (arith, le))) in
    omega (arith, now, rest)

-- counts that differ at one index alone
pub owed_changed : (c d : ℕ → ℕ) (k at : ℕ) (xs : List (Option Enable)) (i : ℕ) → i < length xs
    → ((j : ℕ) → j ≢ at + i → c j ≡ d j)
    → owed c k at xs + cond (owns k (slice_index_or xs i None)) (d (at + i)) 0
    ≡ owed d k at xs + cond (owns k (slice_index_or xs i None)) (c (at + i)) 0
owed_changed c d k at [] i lt h = absurd (omega (arith, lt))
owed_changed c d k at (x ∷ xs) zero lt h =
    let rest = same_behind c d k (suc at) xs (λ j le. h j (λ e. omega (arith, e, le))) in
    let e : at + 0 ≡ at = omega arith in
    let a : cond (owns k x) (c (at + 0)) 0 ≡ cond (owns k x) (c at) 0 = ap (λ n. cond (owns k x) (c n) 0) e in
    let b : cond (owns k x) (d (at + 0)) 0 ≡ cond (owns k x) (d at) 0 = ap (λ n. cond (owns k x) (d n) 0) e in
    omega (arith, rest, a, b)
owed_changed c d k at (x ∷ xs) (suc i) lt h =
    let e : suc at + i ≡ at + suc i = omega arith in
    let rest = owed_changed c d k (suc at) xs i (omega (arith, lt)) (λ j ne. h j (λ z. ne (omega (arith, z)))) in
    let a : cond (owns k (slice_index_or xs i None)) (c (suc at + i)) 0
    ≡ cond (owns k (slice_index_or xs i None)) (c (at + suc i)) 0 =
    ap (λ n. cond (owns k (slice_index_or xs i None)) (c n) 0) e in
    let b : cond (owns k (slice_index_or xs i None)) (d (suc at + i)) 0
    ≡ cond (owns k (slice_index_or xs i None)) (d (at + suc i)) 0 =
    ap (λ n. cond (owns k (slice_index_or xs i None)) (d n) 0) e in
    let now : cond (owns k x) (c at) 0 ≡ cond (owns k x) (d at) 0 =
    ap (λ n. cond (owns k x) n 0) (h at (λ z. omega (arith, z))) in
    omega (arith, rest, a, b, now)
