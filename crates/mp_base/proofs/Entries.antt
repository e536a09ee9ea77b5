-- The element at a place of a list, for all crates above.
use Rattle.std.proofs.Common.{[], List, ℕ, ◌≤◌, ◌<◌, length, ◌+◌, ◌≡◌, ◌++◌, get_or, ◌∷◌, ◌-◌, arith}
use Rattle.std.proofs.Common.{drop, ap, take, ◌∙◌, zero, suc, refl, slice_index, replicate, inl}
use Rattle.std.proofs.Common.{inr, sym, ◌⊎◌, Some, map, subst, Bool, true, false}
use Rattle.std.specs.Prelude.{slice_range, slice_index, slice_get, Option, Some, None, IsSome, Contains, slice_set, All}
use Rattle.std.specs.Prelude.{◌||◌, cond}
use Rattle.std.proofs.lemmas.List.{length-drop, take_more, get_or-drop, get_or-replicate}
use Rattle.std.proofs.lemmas.List.{get_or_past, length-replicate}
use Rattle.std.specs.List.{AllByRecursion, list_any, filter}
use Rattle.std.proofs.lemmas.Bool.{cases_lt, false≢true}
use Rattle.std.proofs.lemmas.Option.{same_Some, slice_get-get_or, slice_get_within}
use Rattle.std.proofs.lemmas.Option.{get_or_from_slice_get, none-some, slice_get_cases}
use Rattle.std.proofs.lemmas.Option.{slice_get-map, slice_get_read}
use Rattle.std.proofs.Math.Seq.{get_or-append_seam}
use Rattle.std.specs.Option.{option_map}
use Rattle.mp_base.specs.Entries.{IsAt}

-- one byte more
pub slice_range_more : (xs : List ℕ) (a i : ℕ) → a ≤ i → i < length xs
    → slice_range xs a (i + 1) ≡ slice_range xs a i ++ get_or xs i 0 ∷ []
slice_range_more xs a i le lt =
    let e : i + 1 - a ≡ i - a + 1 = omega arith in
    let back : a + (i - a) ≡ i = omega arith in
    let inside : i - a < length (drop a xs) = omega (arith, length-drop a xs) in
    ap (λ k. take k (drop a xs)) e ∙ take_more (drop a xs) (i - a) 0 inside
    ∙ ap (λ b. take (i - a) (drop a xs) ++ b ∷ []) (get_or-drop a xs (i - a) 0 ∙ ap (λ k. get_or xs k 0) back)

-- one of a list
pub place_in : (n : ℕ) (fs : List ℕ) (k : ℕ) → AllByRecursion (λ i. i < n) fs → k < length fs → slice_index fs k < n
place_in n [] k fit lt = absurd (omega (arith, lt))
place_in n (f ∷ fs) zero fit lt = fit.0
place_in n (f ∷ fs) (suc k) fit lt = place_in n fs k fit.1 (omega (arith, lt))

-- the element at an index
pub own_default : {X : Type 0} (xs : List X) (i : ℕ) → i < length xs → (x : X) × (x ≡ get_or xs i x)
own_default [] i h = absurd (omega (arith, h))
own_default (x ∷ xs) zero h = (x, refl)
own_default (x ∷ xs) (suc i) h = own_default xs i (omega (arith, h))

pub none_or_some : {X : Type 0} (o : Option X) → (o ≡ None) ⊎ IsSome o
none_or_some None = inl refl
none_or_some (Some x) = inr refl

-- what an option has is one thing
pub one_value : {X : Type 0} (o : Option X) (x y : X) → o ≡ Some x → o ≡ Some y → x ≡ y
one_value o x y h k = same_Some x y (sym h ∙ k)

pub zeros_at : (n k : ℕ) → slice_index (replicate n 0) k ≡ 0
zeros_at n k = elim (cases_lt k n) [
  | inl lt ↦ get_or-replicate n k 0 0 lt
  | inr ge ↦ get_or_past (replicate n 0) k 0 (omega (arith, ge, length-replicate {A = ℕ} n 0))
]

pub same_at : {A : Type 0} (xs : List A) (i j : ℕ) (x y : A) → i ≡ j → slice_get xs i ≡ Some x
    → slice_get xs j ≡ Some y → x ≡ y
same_at xs i j x y e h k = same_Some x y (sym h ∙ ap (slice_get xs) e ∙ k)

pub get_from_contains : {X : Type 0} (xs : List X) (x : X) → Contains xs x → (k : ℕ) × (slice_get xs k ≡ Some x)
get_from_contains xs x c = (c.0, slice_get-get_or xs c.0 x c.1 ∙ ap (λ y. Some y) c.2)

pub contains_from_get : {X : Type 0} (xs : List X) (k : ℕ) (x : X) → slice_get xs k ≡ Some x → Contains xs x
contains_from_get xs k x e = (k, slice_get_within xs k x e, get_or_from_slice_get xs k x x e)

pub get_front : {X : Type 0} (xs ys : List X) (n : ℕ) → n < length xs → slice_get (xs ++ ys) n ≡ slice_get xs n
get_front [] ys n l = absurd (omega arith)
get_front (x ∷ xs) ys zero l = refl
get_front (x ∷ xs) ys (suc n) l = get_front xs ys n (omega arith)

pub get_middle : {X : Type 0} (xs : List X) (y : X) (ys : List X) → slice_get (xs ++ y ∷ ys) (length xs) ≡ Some y
get_middle [] y ys = refl
get_middle (x ∷ xs) y ys = get_middle xs y ys

-- what a list has with one more, at a place
pub push_cases : {A : Type 0} (xs : List A) (y : A) (n : ℕ) (x : A) → slice_get (xs ++ y ∷ []) n ≡ Some x
    → (n < length xs) × (slice_get xs n ≡ Some x) ⊎ (n ≡ length xs) × (y ≡ x)
push_cases [] y zero x e = inr (refl, same_Some y x e)
push_cases [] y (suc n) x e = absurd (cc)
push_cases (z ∷ zs) y zero x e = inl (omega arith, e)
push_cases (z ∷ zs) y (suc n) x e =
    elim (push_cases zs y n x e) [ inl a ↦ inl (omega (arith, a.0), a.1) | inr a ↦ inr (omega (arith, a.0), a.1) ]

pub get_or_pushed : (xs : List ℕ) (x k : ℕ) → k ≡ length xs → get_or (xs ++ x ∷ []) k 0 ≡ x
get_or_pushed xs x k e = ap (λ z. get_or (xs ++ x ∷ []) z 0) e ∙ get_or-append_seam xs x [] 0

pub get_kept : {Y : Type 0} (xs ys : List Y) (n : ℕ) (y : Y) → slice_get xs n ≡ Some y → slice_get (xs ++ ys) n ≡ Some y
get_kept [] ys n y e = absurd (none-some y e)
get_kept (z ∷ zs) ys zero y e = e
get_kept (z ∷ zs) ys (suc n) y e = get_kept zs ys n y e

pub get_set_other : {Y : Type 0} (xs : List Y) (i : ℕ) (x : Y) (n : ℕ) → (n ≡ i → ⊥)
    → slice_get (slice_set xs i x) n ≡ slice_get xs n
get_set_other [] i x n ne = refl
get_set_other (z ∷ zs) zero x zero ne = absurd (ne refl)
get_set_other (z ∷ zs) zero x (suc n) ne = refl
get_set_other (z ∷ zs) (suc i) x zero ne = refl
get_set_other (z ∷ zs) (suc i) x (suc n) ne = get_set_other zs i x n (λ q. ne (omega arith))

-- each number below a length has an element
pub some_entry : {A : Type 0} (xs : List A) (i : ℕ) → i < length xs → (x : A) × (slice_get xs i ≡ Some x)
some_entry xs i h = elim (slice_get_cases xs i).1
    [ inl w ↦ (w.0, w.2) | inr w ↦ absurd (let v = w.0 in omega (arith, v, h)) ]

pub get_behind : {Y : Type 0} (xs ys : List Y) (i : ℕ) → slice_get (xs ++ ys) (length xs + i) ≡ slice_get ys i
get_behind [] ys i = ap (slice_get ys) (let e : 0 + i ≡ i = omega arith in e)
get_behind (x ∷ xs) ys i =
    let e : suc (length xs) + i ≡ suc (length xs + i) = omega arith in
    ap (slice_get (x ∷ xs ++ ys)) e ∙ get_behind xs ys i

pub map_get : {A Y : Type 0} (f : A → Y) (xs : List A) (i : ℕ) (x : A) → slice_get xs i ≡ Some x
    → slice_get (map f xs) i ≡ Some (f x)
map_get f xs i x e = slice_get-map f xs i ∙ ap (option_map f) e

pub get_set_same : {Y : Type 0} (xs : List Y) (i : ℕ) (x : Y) → i < length xs → slice_get (slice_set xs i x) i ≡ Some x
get_set_same [] i x l = absurd (omega arith)
get_set_same (z ∷ zs) zero x l = refl
get_set_same (z ∷ zs) (suc i) x l = get_set_same zs i x (omega (arith, l))

pub get_map : {X Y : Type 0} (f : X → Y) (xs : List X) (k : ℕ) (y : Y) → slice_get (map f xs) k ≡ Some y → (x : X)
    × (slice_get xs k ≡ Some x) × (f x ≡ y)
get_map f [] k y e = absurd (let w = slice_get_within [] k y e in omega (arith, w))
get_map f (x ∷ xs) zero y e = (x, refl, same_Some (f x) y e)
get_map f (x ∷ xs) (suc k) y e = get_map f xs k y e

pub all_from : {X : Type 0} (P : X → Type 0) (xs : List X) → ((k : ℕ) (x : X) → slice_get xs k ≡ Some x → P x)
    → All P xs
all_from P xs h k d lt = let e = some_entry xs k lt in
    subst P (sym (get_or_from_slice_get xs k e.0 d e.1)) (h k e.0 e.1)

pub all_at : {X : Type 0} (P : X → Type 0) (xs : List X) (k : ℕ) (x : X) → All P xs → slice_get xs k ≡ Some x → P x
all_at P xs k x h e = subst P (get_or_from_slice_get xs k x x e) (h k x (slice_get_within xs k x e))

pub any_found : {X : Type 0} (p : X → Bool) (xs : List X) → list_any p xs ≡ true
    → (k : ℕ) × (x : X) × (slice_get xs k ≡ Some x) × (p x ≡ true)
any_found p [] e = absurd (false≢true e)
any_found {X} p (x ∷ xs) e = by_head (p x) refl (any_found p xs) e
  where
    by_head : (b : Bool) → p x ≡ b
        → (list_any p xs ≡ true → (k : ℕ) × (y : X) × (slice_get xs k ≡ Some y) × (p y ≡ true))
        → (b || list_any p xs) ≡ true
        → (k : ℕ) × (y : X) × (slice_get (x ∷ xs) k ≡ Some y) × (p y ≡ true)
    by_head true q again h = (0, x, refl, q)
    by_head false q again h = let r = again h in (suc r.0, r.1, r.2, r.3)

-- ---- one entry

pub within : {X : Type 0} (xs : List X) (k : ℕ) {x : X} → IsAt xs k x → k < length xs
within xs k {x} at = slice_get_within xs k x at

pub value : {X : Type 0} (xs : List X) (k : ℕ) {x : X} → IsAt xs k x → x ≡ get_or xs k x
value xs k {x} at = sym (get_or_from_slice_get xs k x x at)

pub entry : {X : Type 0} (xs : List X) (k : ℕ) {x : X} → k < length xs → x ≡ get_or xs k x → IsAt xs k x
entry xs k {x} lt is = slice_get_read xs (length xs) k x refl lt is

pub read_of : {X : Type 0} (xs : List X) (k : ℕ) (x : X) → IsAt xs k x → (k < length xs) × (x ≡ get_or xs k x)
read_of xs k x at = (within xs k at, value xs k at)

pub one_entry : {X : Type 0} (xs : List X) (k : ℕ) (x y : X) → IsAt xs k x → IsAt xs k y → x ≡ y
one_entry xs k x y at at' = same_Some x y (sym at ∙ at')

-- ---- entries of a list that is kept in part, and what holds of all

pub get_filter : {X : Type 0} (t : X → Bool) (xs : List X) (k : ℕ) (x : X) → IsAt (filter t xs) k x
    → (j : ℕ) × IsAt xs j x
get_filter t [] k x at = absurd (let lt = slice_get_within [] k x at in omega (arith, lt))
get_filter {X} t (y ∷ ys) k x at = kept (λ i. get_filter t ys i x) (t y) k at
  where
    behind : (j : ℕ) × IsAt ys j x → (j : ℕ) × IsAt (y ∷ ys) j x
    behind (j, at) = (suc j, at)

    kept : ((i : ℕ) → IsAt (filter t ys) i x → (j : ℕ) × IsAt ys j x) → (b : Bool) (i : ℕ)
        → IsAt (cond b (y ∷ filter t ys) (filter t ys)) i x
        → (j : ℕ) × IsAt (y ∷ ys) j x
    kept rest true zero at = (0, at)
    kept rest true (suc i) at = behind (rest i at)
    kept rest false i at = behind (rest i at)

pub each_at : {X : Type 0} (P : X → Type 0) (xs : List X) (k : ℕ) (x : X) → AllByRecursion P xs → IsAt xs k x → P x
each_at P [] k x all at = absurd (none-some x at)
each_at P (y ∷ ys) zero x all at = subst P (same_Some y x at) all.0
each_at P (y ∷ ys) (suc k) x all at = each_at P ys k x all.1 at
