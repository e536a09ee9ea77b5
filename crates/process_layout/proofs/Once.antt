-- Lists in which nothing stands twice.
use Rattle.std.proofs.Common.{◌≡◌, inl, inr, ◌∙◌, List, [], ◌∷◌, ◌++◌, sym, subst, arith, map}
use Rattle.std.specs.Prelude.{Contains}
use Rattle.std.proofs.lemmas.Option.{none-some}
use Rattle.mp_base.specs.Entries.{IsAt}
use Rattle.mp_base.proofs.Entries.{contains_from_get, get_map, within}
use Rattle.process_plan.proofs.Census.{AreOnce}
use Rattle.process_layout.proofs.Listing.{at_cases}

pub once_none : {X : Type 0} → AreOnce {X = X} []
once_none j k x at_j at_k = absurd (none-some x at_j)

pub once_one : {X : Type 0} (y : X) → AreOnce (y ∷ [])
once_one y j k x at_j at_k = let first = within (y ∷ []) j at_j in let second = within (y ∷ []) k at_k in
    omega (arith, first, second)

-- two such lists that have nothing in common
pub once_both : {X : Type 0} (xs ys : List X) → AreOnce xs → AreOnce ys
    → ((x : X) → Contains xs x → Contains ys x → ⊥) → AreOnce (xs ++ ys)
once_both xs ys one two apart j k x at_j at_k = elim (at_cases xs ys j x at_j) [
  | inl left ↦ elim (at_cases xs ys k x at_k) [
    | inl too ↦ one j k x left too
    | inr (i, e, right) ↦ absurd (apart x (contains_from_get xs j x left) (contains_from_get ys i x right))
  ]
  | inr (h, e, right) ↦ elim (at_cases xs ys k x at_k) [
    | inl left ↦ absurd (apart x (contains_from_get xs k x left) (contains_from_get ys h x right))
    | inr (i, g, too) ↦ let same = two h i x right too in omega (arith, e, g, same)
  ]
]

-- what differs is mapped to what differs
pub once_mapped : {X Y : Type 0} (f : X → Y) (xs : List X) → ((x y : X) → f x ≡ f y → x ≡ y) → AreOnce xs
    → AreOnce (map f xs)
once_mapped {X} f xs same one j k y at_j at_k =
    let (x, at_x, is_x) = get_map f xs j y at_j in
    let (z, at_z, is_z) = get_map f xs k y at_k in
    let e : z ≡ x = same z x (is_z ∙ sym is_x) in
    one j k x at_x (subst (IsAt xs k) e at_z)
