-- What holds of each element of a list.
use Rattle.std.proofs.Common.{◌≡◌, ℕ, ◌<◌, ◌≤◌, ◌+◌, List, length, get_or, inl, inr, ◌∙◌, ap, subst, arith}
use Rattle.std.proofs.lemmas.Bool.{cases_lt}
use Rattle.std.proofs.lemmas.Option.{get_or_from_slice_get}
use Rattle.mp_base.specs.Entries.{IsAt}
use Rattle.mp_base.proofs.Entries.{within}

-- what holds of each element before the k-th
abbrev pub EachBefore : {X : Type 0} → (ℕ → X → Type 0) → List X → ℕ → Type 0
EachBefore {X} P xs k = (j : ℕ) → j < k → (x : X) → IsAt xs j x → P j x

pub each_more : {X : Type 0} (P : ℕ → X → Type 0) (xs : List X) (k : ℕ) (d : X) → P k (get_or xs k d)
    → EachBefore P xs k → EachBefore P xs (k + 1)
each_more P xs k d here all j lt x at = elim (cases_lt j k) [
  | inl before ↦ all j before x at
  | inr from ↦
      let same : k ≡ j = omega (arith, lt, from) in
      let is : get_or xs k d ≡ x = ap (λ n. get_or xs n d) same ∙ get_or_from_slice_get xs j x d at in
      subst (λ n. P n x) same (subst (P k) is here)
]

pub each_all : {X : Type 0} (P : ℕ → X → Type 0) (xs : List X) (k : ℕ) → length xs ≤ k → EachBefore P xs k
    → (j : ℕ) (x : X) → IsAt xs j x → P j x
each_all P xs k past all j x at = all j (let lt = within xs j at in omega (arith, lt, past)) x at
