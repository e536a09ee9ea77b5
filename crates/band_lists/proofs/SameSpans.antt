-- The span of the pins of a segment is that of the columns in which it is marked.
use Rattle.std.proofs.Common.{◌≡◌, ◌⊎◌, inl, inr, ℕ, ◌<◌, ◌≤◌, ◌^◌, List, [], ◌∷◌, refl, ◌∙◌, sym, subst}
use Rattle.std.proofs.Common.{arith}
use Rattle.std.specs.Prelude.{min}
use Rattle.std.proofs.lemmas.Bool.{cases_lt}
use Rattle.mp_base.proofs.Members.{Member}
use Rattle.array_form.specs.Homes.{least, greatest}
use Rattle.array_form.specs.Place.{interval_of}
use Rattle.array_form.proofs.Homes.{least_below, least_in}
use Rattle.array_form.proofs.Greatest.{greatest_within}
use Rattle.band_lists.specs.Spans.{lowest, span_of}

-- ---- the least and the greatest of numbers with the same members
pub lowest_below : (xs : List ℕ) (a : ℕ) → Member xs a → lowest xs ≤ a
lowest_below [] a m = absurd m
lowest_below (x ∷ xs) a (inl e) = omega arith
lowest_below (x ∷ xs) a (inr m) = let i = lowest_below xs a m in omega arith

pub lowest_in : (xs : List ℕ) → Member xs (lowest xs) ⊎ (lowest xs ≡ 4_294_967_295)
lowest_in [] = inr refl
lowest_in (x ∷ xs) = elim (cases_lt (lowest xs) x) [
  | inl lt ↦ (let e : min x (lowest xs) ≡ lowest xs = omega arith in
      elim (lowest_in xs) [
        | inl m ↦ inl (inr (subst (Member xs) (sym e) m))
        | inr q ↦ inr (e ∙ q)
      ])
  | inr ge ↦ inl (inl (omega arith))
]

pub same_span : (xs ys : List ℕ) (c : ℕ) → Member ys c → ((a : ℕ) → Member xs a → Member ys a × (a < 2 ^ 32))
    → ((a : ℕ) → Member ys a → Member xs a) → span_of xs ≡ interval_of ys
same_span xs [] c m to from = absurd m
same_span xs (y ∷ ys) c m to from =
    let l : Member (y ∷ ys) (least (y ∷ ys)) = least_in y ys in
    let lo : lowest xs ≤ least (y ∷ ys) = lowest_below xs (least (y ∷ ys)) (from (least (y ∷ ys)) l) in
    let lb : least (y ∷ ys) < 2 ^ 32 = (to (least (y ∷ ys)) (from (least (y ∷ ys)) l)).1 in
    let hi : least (y ∷ ys) ≤ lowest xs = elim (lowest_in xs) [
      | inl k ↦ least_below (y ∷ ys) (lowest xs) (to (lowest xs) k).0
      | inr e ↦ omega arith
    ] in
    let up : greatest (y ∷ ys) ≤ greatest xs = greatest_within (y ∷ ys) xs c m from in
    let down : greatest xs ≤ greatest (y ∷ ys) = greatest_within xs (y ∷ ys) c (from c m) (λ a k. (to a k).0) in
    let a : lowest xs ≡ least (y ∷ ys) = omega arith in
    let b : greatest xs ≡ greatest (y ∷ ys) = omega arith in
    λ i. record { first = a i; last = b i }
