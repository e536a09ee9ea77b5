-- What a list has, as it grows.
use Rattle.std.proofs.Common.{◌≡◌, ◌<◌, ◌≤◌, ◌+◌, ◌++◌, ◌∷◌, [], ℕ, List, length, get_or, take, refl, sym, ◌∙◌, ap}
use Rattle.std.proofs.Common.{subst, inl, inr, ◌⊎◌, arith, Option, Some, None, Bool, true, false}
use Rattle.std.specs.Prelude.{Contains, ◌↔◌, replicate, not}
use Rattle.std.specs.Option.{is_some}
use Rattle.std.proofs.lemmas.List.{take_more, get_or_default, get_or-replicate, get_or_past, length-replicate}
use Rattle.std.proofs.lemmas.List.Elements.{Contains-push, Contains-push_cases, Contains-append_left}
use Rattle.std.proofs.lemmas.Bool.{cases_lt}

pub contains_push : {A : Type 0} (xs : List A) (y x : A) → Contains (xs ++ y ∷ []) x ↔ (Contains xs x ⊎ (y ≡ x))
contains_push {A} xs y x = (Contains-push_cases xs y x, back)
  where
    back : Contains xs x ⊎ (y ≡ x) → Contains (xs ++ y ∷ []) x
    back (inl h) = Contains-append_left xs (y ∷ []) x h
    back (inr e) = subst (λ (z : A). Contains (xs ++ y ∷ []) z) e (Contains-push xs y)

-- one more of a list's elements
pub contains_more : {A : Type 0} (xs : List A) (i : ℕ) (y x : A) → i < length xs → y ≡ get_or xs i y
    → Contains (take (i + 1) xs) x ↔ (Contains (take i xs) x ⊎ (y ≡ x))
contains_more {A} xs i y x lt is =
    let e : take (i + 1) xs ≡ take i xs ++ y ∷ [] =
    take_more xs i y lt ∙ ap (λ (z : A). take i xs ++ z ∷ []) (sym is) in
    let p = contains_push (take i xs) y x in
    (λ h. p.0 (subst (λ (zs : List A). Contains zs x) e h), λ h. subst (λ (zs : List A). Contains zs x) (sym e) (p.1 h))

pub contains_at : {A : Type 0} (xs : List A) (i : ℕ) (x : A) → i < length xs → x ≡ get_or xs i x → Contains xs x
contains_at xs i x lt is = (i, lt, sym is)

-- the default doesn't matter
pub contains_index : (xs : List ℕ) (i : ℕ) → i < length xs → Contains xs (get_or xs i 0)
contains_index xs i lt = (i, lt, get_or_default xs i (get_or xs i 0) 0 lt)

pub index_of : (xs : List ℕ) (x : ℕ) → Contains xs x → (k : ℕ) × (k < length xs) × (get_or xs k 0 ≡ x)
index_of xs x h = (h.0, h.1, get_or_default xs h.0 0 x h.1 ∙ h.2)

pub replicate_at : {A : Type 0} (n k : ℕ) (x : A) → get_or (replicate n x) k x ≡ x
replicate_at {A} n k x = by_place (cases_lt k n)
  where
    by_place : (k < n) ⊎ (n ≤ k) → get_or (replicate n x) k x ≡ x
    by_place (inl lt) = get_or-replicate n k x x lt
    by_place (inr le) =
        get_or_past (replicate n x) k x (let l : length (replicate n x) ≡ n = length-replicate n x in omega arith)

pub none_from : {A : Type 0} (o : Option A) (r : Bool) → is_some o ≡ not r → r ≡ true → o ≡ None
none_from None r e t = refl
none_from (Some x) true e t = cc
none_from (Some x) false e t = cc

pub not_none_from : {A : Type 0} (o : Option A) (r : Bool) → is_some o ≡ not r → r ≡ false → o ≡ None → ⊥
not_none_from None true e t n = cc
not_none_from None false e t n = cc
not_none_from (Some x) r e t n = cc
