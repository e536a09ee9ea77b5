-- Entries of lists of which something is true.
use Rattle.std.proofs.Common.{◌≡◌, ◌⊎◌, ℕ, zero, suc, List, [], ◌∷◌, ◌++◌, Bool, true, false, cond, refl, subst, inl}
use Rattle.std.proofs.Common.{inr, map, filter, sym, ◌||◌}
use Rattle.std.specs.List.{list_any}
use Rattle.std.proofs.lemmas.Option.{none-some, same_Some}
use Rattle.mp_base.specs.Entries.{IsAt}

-- an entry of which P is true
abbrev pub Found : {X : Type 0} → List X → (X → Type 0) → Type 0
Found {X} xs P = (k : ℕ) × (x : X) × IsAt xs k x × P x

pub nothing_in : {X : Type 0} (P : X → Type 0) → Found [] P → ⊥
nothing_in P (k, x, at, h) = none-some x at

pub here : {X : Type 0} (P : X → Type 0) (x : X) (xs : List X) → P x → Found (x ∷ xs) P
here P x xs h = (0, x, refl, h)

pub behind : {X : Type 0} (P : X → Type 0) (x : X) (xs : List X) → Found xs P → Found (x ∷ xs) P
behind P x xs (k, y, at, h) = (suc k, y, at, h)

pub first_or_behind : {X : Type 0} (P : X → Type 0) (x : X) (xs : List X) → Found (x ∷ xs) P → P x ⊎ Found xs P
first_or_behind P x xs (zero, y, at, h) = inl (subst P (sym (same_Some x y at)) h)
first_or_behind P x xs (suc k, y, at, h) = inr (k, y, at, h)

pub weaken : {X : Type 0} (P Q : X → Type 0) → ((x : X) → P x → Q x) → (xs : List X) → Found xs P → Found xs Q
weaken P Q f xs (k, x, at, h) = (k, x, at, f x h)

pub in_left : {X : Type 0} (P : X → Type 0) (xs ys : List X) → Found xs P → Found (xs ++ ys) P
in_left P [] ys h = absurd (nothing_in P h)
in_left P (x ∷ xs) ys h = elim (first_or_behind P x xs h) [
  | inl now ↦ here P x (xs ++ ys) now
  | inr later ↦ behind P x (xs ++ ys) (in_left P xs ys later)
]

pub in_right : {X : Type 0} (P : X → Type 0) (xs ys : List X) → Found ys P → Found (xs ++ ys) P
in_right P [] ys h = h
in_right P (x ∷ xs) ys h = behind P x (xs ++ ys) (in_right P xs ys h)

pub in_either : {X : Type 0} (P : X → Type 0) (xs ys : List X) → Found (xs ++ ys) P → Found xs P ⊎ Found ys P
in_either P [] ys h = inr h
in_either P (x ∷ xs) ys h = elim (first_or_behind P x (xs ++ ys) h) [
  | inl now ↦ inl (here P x xs now)
  | inr later ↦ elim (in_either P xs ys later) [ inl left ↦ inl (behind P x xs left) | inr right ↦ inr right ]
]

pub in_map : {X Y : Type 0} (f : X → Y) (P : Y → Type 0) (xs : List X) → Found xs (λ x. P (f x)) → Found (map f xs) P
in_map f P [] h = absurd (nothing_in (λ x. P (f x)) h)
in_map f P (x ∷ xs) h = elim (first_or_behind (λ z. P (f z)) x xs h) [
  | inl now ↦ here P (f x) (map f xs) now
  | inr later ↦ behind P (f x) (map f xs) (in_map f P xs later)
]

pub of_map : {X Y : Type 0} (f : X → Y) (P : Y → Type 0) (xs : List X) → Found (map f xs) P → Found xs (λ x. P (f x))
of_map f P [] h = absurd (nothing_in P h)
of_map f P (x ∷ xs) h = elim (first_or_behind P (f x) (map f xs) h) [
  | inl now ↦ here (λ z. P (f z)) x xs now
  | inr later ↦ behind (λ z. P (f z)) x xs (of_map f P xs later)
]

-- an entry that passes a test
abbrev pub Passing : {X : Type 0} → (X → Bool) → (X → Type 0) → X → Type 0
Passing t P x = (t x ≡ true) × P x

pub in_filter : {X : Type 0} (t : X → Bool) (P : X → Type 0) (xs : List X) → Found xs (Passing t P)
    → Found (filter t xs) P
in_filter t P [] h = absurd (nothing_in (Passing t P) h)
in_filter t P (x ∷ xs) h = kept (in_filter t P xs) (t x) refl (first_or_behind (Passing t P) x xs h)
  where
    kept : (Found xs (Passing t P) → Found (filter t xs) P) → (b : Bool) → t x ≡ b
        → Passing t P x ⊎ Found xs (Passing t P)
        → Found (cond b (x ∷ filter t xs) (filter t xs)) P
    kept rest true e (inl now) = here P x (filter t xs) now.1
    kept rest true e (inr later) = behind P x (filter t xs) (rest later)
    kept rest false e (inl now) = let passes = now.0 in cc
    kept rest false e (inr later) = rest later

pub of_filter : {X : Type 0} (t : X → Bool) (P : X → Type 0) (xs : List X) → Found (filter t xs) P
    → Found xs (Passing t P)
of_filter t P [] h = absurd (nothing_in P h)
of_filter t P (x ∷ xs) h = kept (of_filter t P xs) (t x) refl h
  where
    kept : (Found (filter t xs) P → Found xs (Passing t P)) → (b : Bool) → t x ≡ b
        → Found (cond b (x ∷ filter t xs) (filter t xs)) P
        → Found (x ∷ xs) (Passing t P)
    kept rest true e found = elim (first_or_behind P x (filter t xs) found) [
      | inl now ↦ here (Passing t P) x xs (e, now)
      | inr later ↦ behind (Passing t P) x xs (rest later)
    ]
    kept rest false e found = behind (Passing t P) x xs (rest found)

pub any_found : {X : Type 0} (t : X → Bool) (xs : List X) → list_any t xs ≡ true → Found xs (λ x. t x ≡ true)
any_found t [] h = cc
any_found t (x ∷ xs) h = cases (any_found t xs) (t x) refl h
  where
    cases : (list_any t xs ≡ true → Found xs (λ z. t z ≡ true)) → (b : Bool) → t x ≡ b → (b || list_any t xs) ≡ true
        → Found (x ∷ xs) (λ z. t z ≡ true)
    cases rest true e g = here (λ z. t z ≡ true) x xs e
    cases rest false e g = behind (λ z. t z ≡ true) x xs (rest g)

pub found_any : {X : Type 0} (t : X → Bool) (xs : List X) → Found xs (λ x. t x ≡ true) → list_any t xs ≡ true
found_any t [] h = absurd (nothing_in (λ x. t x ≡ true) h)
found_any t (x ∷ xs) h = cases (found_any t xs) (t x) refl (first_or_behind (λ z. t z ≡ true) x xs h)
  where
    cases : (Found xs (λ z. t z ≡ true) → list_any t xs ≡ true) → (b : Bool) → t x ≡ b
        → (t x ≡ true) ⊎ Found xs (λ z. t z ≡ true)
        → (b || list_any t xs) ≡ true
    cases rest true e g = refl
    cases rest false e (inl now) = cc
    cases rest false e (inr later) = rest later
