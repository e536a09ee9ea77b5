-- The strips of the layers, and which of them touch.
use Rattle.std.specs.Prelude.{◌≡◌, ◌≢◌, ℕ, ◌<◌, ℤ, List, All, AllPairs, Contains, Some, slice_get}
use Rattle.lam_geom.specs.declared.layer.Layer.{Layer}
use Rattle.lam_geom.specs.declared.rect.Rect.{Rect}
use Rattle.lam_geom.specs.Squares.{covered, Touch}
use Rattle.mask_tiles.specs.Tiles.{IsLongest}
use Rattle.union_find.specs.declared.pair.Pair.{Pair}

-- a longest row of covered squares of one layer
abbrev pub IsRun : List Rect → Layer → ℤ → ℤ → ℤ → Type 0
IsRun shapes l x0 x1 y = IsLongest (λ x. covered shapes l x y) x0 x1

-- equal runs in a longest series of neighbouring rows
abbrev pub IsStrip : List Rect → Rect → Type 0
IsStrip shapes r = IsLongest (IsRun shapes r.layer r.x0 r.x1) r.y0 r.y1

-- the list has exactly the strips of all layers, each once
pub record AreStrips (shapes strips : List Rect) : Type 0 where
  pub each : All (IsStrip shapes) strips
  pub all : (r : Rect) → IsStrip shapes r → Contains strips r
  pub once : AllPairs (λ r q. r ≢ q) strips

-- the strips with these numbers touch, and the first number is the lower one
pub record TouchAt (strips : List Rect) (a b : ℕ) : Type 0 where
  pub order : a < b
  pub first : Rect
  pub second : Rect
  pub at_first : slice_get strips a ≡ Some first
  pub at_second : slice_get strips b ≡ Some second
  pub touch : Touch first second

-- the list has exactly the pairs of numbers of strips that touch, each once
pub record AreTouchingPairs (strips : List Rect) (pairs : List Pair) : Type 0 where
  pub each : All (λ p. TouchAt strips p.a p.b) pairs
  pub all : (p : Pair) → TouchAt strips p.a p.b → Contains pairs p
  pub once : AllPairs (λ p q. p ≢ q) pairs
