-- Sums and products up to a cap.
use Rattle.std.proofs.Common.{append-nil, ◌≡◌, inl, inr, ℕ, zero, suc, ◌+◌, ◌*◌, ◌<◌, ◌≤◌, List, [], ◌∷◌, ◌++◌, refl}
use Rattle.std.proofs.Common.{◌∙◌, ap, arith, length, get_or, take, min}
use Rattle.std.specs.List.{sum_by, flat_map, AllByRecursion}
use Rattle.std.proofs.lemmas.Bool.{cases_lt}
use Rattle.std.proofs.lemmas.List.Sums.{sum_by-cons, sum_by_more, sum_by-append}
use Rattle.std.proofs.lemmas.List.{take_more}
use Rattle.std.proofs.lemmas.List.Concat.{flat_map-append}
use Rattle.mp_program.specs.declared.program.Branch.{Branch}
use Rattle.std.proofs.Math.Nat.{mul-le-mul, mul-zero, zero-mul}

pub min_add : (c a b : ℕ) → min c (min c a + min c b) ≡ min c (a + b)
min_add c a b = omega arith

-- a sum and a further term
pub sum_more : {X : Type 0} (f : X → ℕ) (cap : ℕ) (xs : List X) (i : ℕ) (d : X) (sum w new : ℕ) → i < length xs
    → sum ≡ min cap (sum_by f (take i xs))
    → min cap w ≡ min cap (f (get_or xs i d)) → new ≡ min cap (sum + w) → new ≡ min cap (sum_by f (take (i + 1) xs))
sum_more f cap xs i d sum w new lt before term is = omega (arith, sum_by_more f xs i d lt, before, term, is)

pub sum_more_from : {X : Type 0} (f : X → ℕ) (cap start : ℕ) (xs : List X) (i : ℕ) (d : X) (sum w new : ℕ)
    → i < length xs
    → sum ≡ min cap (start + sum_by f (take i xs)) → min cap w ≡ min cap (f (get_or xs i d)) → new ≡ min cap (sum + w)
    → new ≡ min cap (start + sum_by f (take (i + 1) xs))
sum_more_from f cap start xs i d sum w new lt before term is = omega (arith, sum_by_more f xs i d lt, before, term, is)

-- sums of terms that are the same up to a cap
pub sum_capped : {X : Type 0} (f g : X → ℕ) (cap : ℕ) (xs : List X)
    → AllByRecursion (λ x. min cap (f x) ≡ min cap (g x)) xs → min cap (sum_by f xs) ≡ min cap (sum_by g xs)
sum_capped f g cap [] same = refl
sum_capped f g cap (x ∷ xs) (here, rest) =
    omega (arith, sum_by-cons f x xs, sum_by-cons g x xs, here, sum_capped f g cap xs rest)

pub all_by : {X : Type 0} (P : X → Type 0) → ((x : X) → P x) → (xs : List X) → AllByRecursion P xs
all_by P h [] = tt
all_by P h (x ∷ xs) = (h x, all_by P h xs)

-- a product at or above the cap
big : (c a b : ℕ) → c ≤ a → 1 ≤ b → c ≤ a * b
big c a b le pos = let h : c * 1 ≤ a * b = mul-le-mul le pos in omega (arith, h)

big_right : (c a b : ℕ) → 1 ≤ a → c ≤ b → c ≤ a * b
big_right c a b pos le = let h : 1 * c ≤ a * b = mul-le-mul pos le in omega (arith, h)

pub min_mul : (c a b : ℕ) → min c (min c a * min c b) ≡ min c (a * b)
min_mul zero a b = omega arith
min_mul (suc c) zero b = let e : min (suc c) 0 ≡ 0 = omega arith in rw (e, zero-mul, zero-mul) refl
min_mul (suc c) (suc a) zero = let e : min (suc c) 0 ≡ 0 = omega arith in rw (e, mul-zero, mul-zero) refl
min_mul (suc c) (suc a) (suc b) = elim (cases_lt (suc a) (suc c)) [
  | inl al ↦ elim (cases_lt (suc b) (suc c)) [
    | inl bl ↦ let ea : min (suc c) (suc a) ≡ suc a = omega (arith, al) in
        let eb : min (suc c) (suc b) ≡ suc b = omega (arith, bl) in rw (ea, eb) refl
    | inr bg ↦
        both (big_right (suc c) (min (suc c) (suc a)) (min (suc c) (suc b)) (omega arith) (omega (arith, bg)))
        (big_right (suc c) (suc a) (suc b) (omega arith) bg)
  ]
  | inr ag ↦
      both (big (suc c) (min (suc c) (suc a)) (min (suc c) (suc b)) (omega (arith, ag)) (omega arith))
      (big (suc c) (suc a) (suc b) ag (omega arith))
]
  where
    both : {c x y : ℕ} → c ≤ x → c ≤ y → min c x ≡ min c y
    both h g = omega (arith, h, g)

-- a sum over the bodies of branches, and over one more
pub bodies_more : (f : ℕ → ℕ) (cap : ℕ) (bs : List Branch) (i : ℕ) (d : Branch) (sum new : ℕ) → i < length bs
    → sum ≡ min cap (sum_by f (flat_map (λ (b : Branch). b.body) (take i bs)))
    → new ≡ min cap (sum + sum_by f (get_or bs i d).body)
    → new ≡ min cap (sum_by f (flat_map (λ (b : Branch). b.body) (take (i + 1) bs)))
bodies_more f cap bs i d sum new lt before is =
    let longer : sum_by f (flat_map (λ (b : Branch). b.body) (take (i + 1) bs))
    ≡ sum_by f (flat_map (λ (b : Branch). b.body) (take i bs)) + sum_by f (get_or bs i d).body =
    ap (λ xs. sum_by f (flat_map (λ (b : Branch). b.body) xs)) (take_more bs i d lt)
    ∙ ap (sum_by f) (flat_map-append (λ (b : Branch). b.body) (take i bs) (get_or bs i d ∷ []))
    ∙ sum_by-append f (flat_map (λ (b : Branch). b.body) (take i bs)) ((get_or bs i d).body ++ [])
    ∙ ap (λ xs. sum_by f (flat_map (λ (b : Branch). b.body) (take i bs)) + sum_by f xs)
    (append-nil (get_or bs i d).body) in
    omega (arith, longer, before, is)
