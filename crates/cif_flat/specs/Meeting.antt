-- Ways, and names of labels that were met.
use Rattle.std.specs.Prelude.{ℕ, ◌≡◌, Bool, List, Option, Some, None, Vec, nat_eq}
use Rattle.std.specs.HashSet.{HashSet, contains_by}
use Rattle.std.specs.Cmp.Lexicographic.{pointwise}

-- this is the way, or there is none
abbrev pub IsWay : {A : Type 0} → Option (List ℕ) → Option (Vec ℕ A) → Type 0
IsWay way None = way ≡ None
IsWay way (Some bytes) = way ≡ Some bytes.items

abbrev pub is_name : List ℕ → List ℕ → Bool
is_name name q = pointwise nat_eq q name

-- the name is among those that were met
abbrev pub was_met : {A S : Type 0} → HashSet (Vec ℕ A) S → List ℕ → Bool
was_met met q = contains_by (λ k. pointwise nat_eq q k.items) met
