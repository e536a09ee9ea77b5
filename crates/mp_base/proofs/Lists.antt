-- Lists that are taken, mapped, filtered and put one behind another, for all crates above.
use Rattle.std.proofs.Common.{[], List, ℕ, ◌≡◌, ◌-◌, arith, ap, take, drop, length, refl, ◌∷◌, suc, map}
use Rattle.std.proofs.Common.{◌<◌, ◌++◌, ◌⊎◌, Bool, false, ◌≤◌, inl, subst, cond, sym, inr}
use Rattle.std.specs.Prelude.{slice_range, filter, flat_map, ◌==◌, ◌||◌}
use Rattle.std.specs.List.{list_any}
use Rattle.std.proofs.lemmas.List.{take_all, length_push}
use Rattle.std.proofs.lemmas.Bool.{cases_Bool}
use Rattle.mp_base.specs.Table.{table}

pub slice_range_none : (text : List ℕ) (a : ℕ) → slice_range text a a ≡ []
slice_range_none text a = let e : a - a ≡ 0 = omega arith in ap (λ k. take k (drop a text)) e

pub length-table : {X Y : Type 0} (none : Y) (f : X → (ℕ → Y) → Y) (at : ℕ) (xs : List X)
    → length (table none f at xs) ≡ length xs
length-table none f at [] = refl
length-table none f at (x ∷ xs) = ap suc (length-table none f (suc at) xs)

pub take_whole : {X : Type 0} (xs : List X) → take (length xs) xs ≡ xs
take_whole xs = take_all (length xs) xs (omega arith)

pub length_map : {X Y : Type 0} (f : X → Y) (xs : List X) → length (map f xs) ≡ length xs
length_map f [] = refl
length_map f (x ∷ xs) = ap suc (length_map f xs)

pub any_map : {X Y : Type 0} (f : X → Y) (test : Y → Bool) (xs : List X)
    → list_any test (map f xs) ≡ list_any (λ x. test (f x)) xs
any_map f test [] = refl
any_map f test (x ∷ xs) = ap (λ b. test (f x) || b) (any_map f test xs)

pub head_of : {X : Type 0} {x y : X} {xs ys : List X} → x ∷ xs ≡ y ∷ ys → x ≡ y
head_of e = cc

pub tail_of : {X : Type 0} {x y : X} {xs ys : List X} → x ∷ xs ≡ y ∷ ys → xs ≡ ys
tail_of e = cc

pub flat_map_same : {X Y : Type 0} (f g : X → List Y) (xs : List X) → ((x : X) → f x ≡ g x)
    → flat_map f xs ≡ flat_map g xs
flat_map_same f g xs h = λ i. flat_map (λ x. h x i) xs

pub empty_of : {X : Type 0} (xs : List X) → length xs ≡ 0 → xs ≡ []
empty_of [] e = refl
empty_of (x ∷ xs) e = absurd (omega (arith, e))

pub some_items : {X : Type 0} (xs : List X) → (length xs == 0) ≡ false → 0 < length xs
some_items [] h = absurd (cc)
some_items (x ∷ xs) h = omega arith

-- an index of a list with one more element
pub below_or_pushed : {X : Type 0} (xs : List X) (x : X) (i : ℕ) → i < length (xs ++ x ∷ [])
    → (i < length xs) ⊎ (i ≡ length xs)
below_or_pushed xs x i lt = let l = length_push xs x in grind (arith, l, lt)

pub map_append : {A B : Type 0} (g : A → B) (xs ys : List A) → map g (xs ++ ys) ≡ map g xs ++ map g ys
map_append g [] ys = refl
map_append g (x ∷ xs) ys = ap (λ l. g x ∷ l) (map_append g xs ys)

pub filter_few : {A : Type 0} (test : A → Bool) (xs : List A) → length (filter test xs) ≤ length xs
filter_few test [] = omega arith
filter_few test (x ∷ xs) = let i = filter_few test xs in elim (cases_Bool (test x)) [
  | inl e ↦ subst (λ t. length (cond t (x ∷ filter test xs) (filter test xs)) ≤ length (x ∷ xs)) (sym e) (omega arith)
  | inr e ↦ subst (λ t. length (cond t (x ∷ filter test xs) (filter test xs)) ≤ length (x ∷ xs)) (sym e)
      (omega arith)
]
