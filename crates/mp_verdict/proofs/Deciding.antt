-- Decided claims, and the earliest place where a claim on places holds.
use Rattle.std.proofs.Common.{◌≡◌, ◌⊎◌, inl, inr, ℕ, zero, suc, ◌<◌, ◌≤◌, List, [], ◌∷◌, length, refl, sym, ap, subst}
use Rattle.std.proofs.Common.{arith}
use Rattle.std.specs.Prelude.{Contains}
use Rattle.std.proofs.lemmas.Bool.{cases_lt}
use Rattle.std.proofs.lemmas.Option.{none-some, same_Some, slice_get_within}
use Rattle.mp_base.specs.declared.refusal.Place.{Place}
use Rattle.mp_base.proofs.Decisions.{Decided, same_claim}
use Rattle.mp_base.specs.Entries.{IsAt}
use Rattle.mp_base.proofs.Entries.{one_entry, some_entry, get_from_contains, contains_from_get}

-- ---- claims

-- ---- entries of lists

-- an entry with a property
abbrev pub Entry : {X : Type 0} → List X → (ℕ → X → Type 0) → Type 0
Entry {X} xs R = (k : ℕ) × (x : X) × IsAt xs k x × R k x

pub some_at : {X : Type 0} (xs : List X) (R : ℕ → X → Type 0) → ((k : ℕ) (x : X) → IsAt xs k x → Decided (R k x))
    → Decided (Entry xs R)
some_at [] R known = inr (λ (k, x, at, h). none-some x at)
some_at {X} (y ∷ ys) R known = by (known 0 y refl)
    (some_at ys (λ k x. R (suc k) x) (λ k x at. known (suc k) x at))
  where
    by : Decided (R 0 y) → Decided (Entry ys (λ k x. R (suc k) x)) → Decided (Entry (y ∷ ys) R)
    by (inl h) rest = inl (0, y, refl, h)
    by (inr none) (inl (k, x, at, h)) = inl (suc k, x, at, h)
    by (inr none) (inr nor) = inr neither
      where
        neither : Entry (y ∷ ys) R → ⊥
        neither (zero, x, at, h) = none (subst (λ z. R 0 z) (sym (same_Some y x at)) h)
        neither (suc k, x, at, h) = nor (k, x, at, h)

-- a member with a property
pub some_in : {X : Type 0} (xs : List X) (R : X → Type 0) → ((x : X) → Contains xs x → Decided (R x))
    → Decided ((x : X) × Contains xs x × R x)
some_in xs R known = same_claim (some_at xs (λ k x. R x) (λ k x at. known x (contains_from_get xs k x at)))
    (λ (k, x, at, h). (x, contains_from_get xs k x at, h))
    (λ (x, c, h). let (k, at) = get_from_contains xs x c in (k, x, at, h))

pub is_in : {X : Type 0} (xs : List X) (x : X) → ((y : X) → Decided (y ≡ x)) → Decided (Contains xs x)
is_in {X} xs x known = same_claim (some_at xs (λ k y. y ≡ x) (λ k y at. known y)) fore back
  where
    fore : Entry xs (λ k y. y ≡ x) → Contains xs x
    fore (k, y, at, e) = subst (λ z. Contains xs z) e (contains_from_get xs k y at)

    back : Contains xs x → Entry xs (λ k y. y ≡ x)
    back c = let (k, at) = get_from_contains xs x c in (k, x, at, refl)

-- ---- places

-- a claim holds at no place, or at one that no other precedes
pub data First (P : Place → Type 0) : Type 0 where
  nowhere : ((at : Place) → P at → ⊥) → First P
  earliest : (at : Place) → P at → ((there : Place) → P there → at.offset ≤ there.offset) → First P

pub same_places : {P Q : Place → Type 0} → First P → ((at : Place) → P at → Q at) → ((at : Place) → Q at → P at)
    → First Q
same_places (nowhere none) f g = nowhere (λ at h. none at (g at h))
same_places (earliest at h least) f g = earliest at (f at h) (λ there k. least there (g there k))

pub either_place : {P Q : Place → Type 0} → First P → First Q → First (λ at. P at ⊎ Q at)
either_place (nowhere none) (nowhere nor) = nowhere (λ at h. elim h [ inl p ↦ none at p | inr q ↦ nor at q ])
either_place (nowhere none) (earliest at h least) = earliest at (inr h)
    (λ there k. elim k [ inl p ↦ absurd (none there p) | inr q ↦ least there q ])
either_place (earliest at h least) (nowhere nor) = earliest at (inl h)
    (λ there k. elim k [ inl p ↦ least there p | inr q ↦ absurd (nor there q) ])
either_place {P} {Q} (earliest a h first) (earliest b k second) = by (cases_lt b.offset a.offset)
  where
    by : (b.offset < a.offset) ⊎ (a.offset ≤ b.offset) → First (λ at. P at ⊎ Q at)
    by (inl lt) = earliest b (inr k) (λ there t. elim t [
      | inl p ↦ (let le = first there p in omega (arith, le, lt))
      | inr q ↦ second there q
    ])
    by (inr le) = earliest a (inl h) (λ there t. elim t [
      | inl p ↦ first there p
      | inr q ↦
          (let more = second there q in omega (arith, le, more))
    ])

pub this_place : (A : Type 0) (place : Place) → Decided A → First (λ at. A × (at ≡ place))
this_place A place (inl a) = earliest place (a, refl) (λ there (h, e). let o = ap Place.offset e in omega (arith, o))
this_place A place (inr none) = nowhere (λ at (a, e). none a)

pub where_so : {A : Type 0} {P : Place → Type 0} → Decided A → First P → First (λ at. A × P at)
where_so (inl a) h = same_places h (λ at p. (a, p)) (λ at (b, p). p)
where_so (inr none) h = nowhere (λ at (a, p). none a)

-- the earliest of the places of a list's entries
abbrev pub Entries : {X : Type 0} → List X → (ℕ → X → Place → Type 0) → Place → Type 0
Entries {X} xs R at = (k : ℕ) × (x : X) × IsAt xs k x × R k x at

pub first_of_all : {X : Type 0} (xs : List X) (R : ℕ → X → Place → Type 0)
    → ((k : ℕ) (x : X) → IsAt xs k x → First (R k x)) → First (Entries xs R)
first_of_all [] R known = nowhere (λ at (k, x, here, h). none-some x here)
first_of_all {X} (y ∷ ys) R known = same_places (either_place (known 0 y refl)
    (first_of_all ys (λ k x. R (suc k) x) (λ k x here. known (suc k) x here)))
    fore back
  where
    fore : (at : Place) → R 0 y at ⊎ Entries ys (λ k x. R (suc k) x) at → Entries (y ∷ ys) R at
    fore at (inl h) = (0, y, refl, h)
    fore at (inr (k, x, here, h)) = (suc k, x, here, h)

    back : (at : Place) → Entries (y ∷ ys) R at → R 0 y at ⊎ Entries ys (λ k x. R (suc k) x) at
    back at (zero, x, here, h) = inl (subst (λ z. R 0 z at) (sym (same_Some y x here)) h)
    back at (suc k, x, here, h) = inr (k, x, here, h)

-- the same of the entry at an index, if there is one
pub first_of_entry : {X : Type 0} (xs : List X) (k : ℕ) (R : X → Place → Type 0)
    → ((x : X) → IsAt xs k x → First (R x)) → First (λ at. (x : X) × IsAt xs k x × R x at)
first_of_entry {X} xs k R known = by (cases_lt k (length xs))
  where
    by : (k < length xs) ⊎ (length xs ≤ k) → First (λ at. (x : X) × IsAt xs k x × R x at)
    by (inr past) = nowhere (λ at (x, here, h). let lt = slice_get_within xs k x here in omega (arith, lt, past))
    by (inl lt) = let (x, at_k) = some_entry xs k lt in
        same_places (known x at_k) (λ at h. (x, at_k, h)) (λ at (y, also, h). subst (λ z. R z at)
        (one_entry xs k y x also at_k) h)
