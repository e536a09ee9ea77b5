-- Things that pairs join, and the least of each class.
use Rattle.std.specs.Prelude.{◌≡◌, ◌⊎◌, ℕ, ◌<◌, ◌≤◌, List, length, get_or, Contains}
use Rattle.lam_geom.specs.Chains.{Chain}
use Rattle.union_find.specs.declared.pair.Pair.{Pair}

-- some pair of the list has these two, in either order
pub record Paired (pairs : List Pair) (i j : ℕ) : Type 0 where
  pub pair : Pair
  pub among : Contains pairs pair
  pub ends : (pair.a ≡ i) × (pair.b ≡ j) ⊎ (pair.a ≡ j) × (pair.b ≡ i)

-- the list has at each place the least thing to which a chain of pairs leads from it
pub record AreLeasts (count : ℕ) (pairs : List Pair) (least : List ℕ) : Type 0 where
  pub as_many : length least ≡ count
  pub below : (i : ℕ) → i < count → get_or least i 0 ≤ i
  pub home : (i : ℕ) → i < count → Chain (Paired pairs) i (get_or least i 0)
  pub one : (i j : ℕ) → Chain (Paired pairs) i j → get_or least i 0 ≡ get_or least j 0
