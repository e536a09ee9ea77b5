-- What a list contains, for all crates above.
use Rattle.std.proofs.Common.{[], List, ◌∷◌, arith, refl, suc, zero, subst, ◌≡◌, map, ap, Bool, filter}
use Rattle.std.proofs.Common.{true, cond, sym, ◌∙◌, false, inl, inr}
use Rattle.std.specs.Prelude.{Contains, flat_map}
use Rattle.std.specs.List.{AllByRecursion, list_any}
use Rattle.std.proofs.lemmas.List.Folds.{list_any_at}
use Rattle.std.proofs.lemmas.List.Elements.{Contains-append_left, Contains-append_right, Contains-append_cases}

pub contains_head : {X : Type 0} (x : X) (xs : List X) → Contains (x ∷ xs) x
contains_head x xs = (0, omega arith, refl)

pub contains_behind : {X : Type 0} (x y : X) (xs : List X) → Contains xs x → Contains (y ∷ xs) x
contains_behind x y xs (k, lt, is) = (suc k, omega (arith, lt), is)

pub holds_of_contained : {X : Type 0} (P : X → Type 0) (xs : List X) (x : X) → AllByRecursion P xs → Contains xs x → P x
holds_of_contained P [] x h (k, lt, is) = absurd (omega (arith, lt))
holds_of_contained P (y ∷ ys) x h (zero, lt, is) = subst P is h.0
holds_of_contained P (y ∷ ys) x h (suc k, lt, is) = holds_of_contained P ys x h.1 (k, omega (arith, lt), is)

pub contains_one : {X : Type 0} (x : X) → Contains (x ∷ []) x
contains_one x = grind arith

pub is_only_one : {X : Type 0} (x y : X) → Contains (x ∷ []) y → y ≡ x
is_only_one x y h = grind arith

pub nothing_in : {X : Type 0} (x : X) → ¬ Contains [] x
nothing_in x h = grind arith

pub only_one : {X : Type 0} (x y : X) → Contains (x ∷ []) y → x ≡ y
only_one x y (zero, l, e) = e
only_one x y (suc k, l, e) = absurd (omega arith)

pub contains_map : {A B : Type 0} (g : A → B) (xs : List A) (x : A) → Contains xs x → Contains (map g xs) (g x)
contains_map g [] x c = absurd (omega (arith, c.1))
contains_map g (y ∷ ys) x (zero, l, e) = (zero, omega arith, ap g e)
contains_map g (y ∷ ys) x (suc k, l, e) = let c = contains_map g ys x (k, omega arith, e) in
    (suc c.0, (let w = c.1 in omega (arith, w)), c.2)

-- what is mapped to a member
pub contains_from_map : {X Y : Type 0} (f : X → Y) (xs : List X) (y : Y) → Contains (map f xs) y
    → (x : X) × Contains xs x
    × (f x ≡ y)
contains_from_map f [] y c = absurd (nothing_in y c)
contains_from_map f (x ∷ xs) y (zero, lt, is) = (x, contains_head x xs, is)
contains_from_map f (x ∷ xs) y (suc k, lt, is) =
    let (z, cz, e) = contains_from_map f xs y (k, omega (arith, lt), is) in (z, contains_behind z x xs cz, e)

pub contains_from_filter : {X : Type 0} (t : X → Bool) (xs : List X) (x : X) → Contains (filter t xs) x
    → Contains xs x × (t x ≡ true)
contains_from_filter t [] x c = absurd (nothing_in x c)
contains_from_filter {X} t (y ∷ ys) x c = pick (t y) refl c (contains_from_filter t ys x)
  where
    pick : (b : Bool) → t y ≡ b → Contains (cond b (y ∷ filter t ys) (filter t ys)) x
        → (Contains (filter t ys) x → Contains ys x × (t x ≡ true)) → Contains (y ∷ ys) x × (t x ≡ true)
    pick true e (zero, lt, is) rest = ((zero, omega arith, is), ap t (sym is) ∙ e)
    pick true e (suc k, lt, is) rest = let r = rest (k, omega (arith, lt), is) in (contains_behind x y ys r.0, r.1)
    pick false e c rest = let r = rest c in (contains_behind x y ys r.0, r.1)

-- what one of the joined lists contains
pub contains_flat : {X Y : Type 0} (f : X → List Y) (xs : List X) (x : X) (y : Y) → Contains xs x → Contains (f x) y
    → Contains (flat_map f xs) y
contains_flat f [] x y c h = absurd (nothing_in x c)
contains_flat f (z ∷ zs) x y (zero, lt, is) h =
    Contains-append_left (f z) (flat_map f zs) y (subst (λ w. Contains (f w) y) (sym is) h)
contains_flat f (z ∷ zs) x y (suc k, lt, is) h =
    Contains-append_right (f z) (flat_map f zs) y (contains_flat f zs x y (k, omega (arith, lt), is) h)

pub contains_from_flat : {X Y : Type 0} (f : X → List Y) (xs : List X) (y : Y) → Contains (flat_map f xs) y
    → (x : X) × Contains xs x × Contains (f x) y
contains_from_flat f [] y c = absurd (nothing_in y c)
contains_from_flat {X} {Y} f (x ∷ xs) y c =
    elim (Contains-append_cases (f x) (flat_map f xs) y c) as (λ _. (z : X) × Contains (x ∷ xs) z × Contains (f z) y) [
      | inl h ↦ (x, contains_head x xs, h)
      | inr h ↦ let (z, a, b) = contains_from_flat f xs y h in (z, contains_behind z x xs a, b)
    ]

-- a list that contains what passes a test has some that passes
pub any_contained : {X : Type 0} (test : X → Bool) (xs : List X) (x : X) → Contains xs x → test x ≡ true
    → list_any test xs ≡ true
any_contained test xs x (k, lt, is) t = list_any_at test xs k x lt (ap test is ∙ t)

-- what passes a test is kept
pub contains_filter : {X : Type 0} (t : X → Bool) (xs : List X) (x : X) → Contains xs x → t x ≡ true → Contains
    (filter t xs) x
contains_filter t [] x c h = absurd (nothing_in x c)
contains_filter t (z ∷ zs) x (zero, lt, is) h =
    let P : Bool → Type 0 = λ b. Contains (cond b (z ∷ filter t zs) (filter t zs)) x in
    subst P (sym h ∙ ap t (sym is)) (0, omega arith, is)
contains_filter t (z ∷ zs) x (suc k, lt, is) h = kept (t z) (contains_filter t zs x (k, omega (arith, lt), is) h)
  where
    kept : (b : Bool) → Contains (filter t zs) x → Contains (cond b (z ∷ filter t zs) (filter t zs)) x
    kept true c = contains_behind x z (filter t zs) c
    kept false c = c
