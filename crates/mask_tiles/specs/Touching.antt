-- Tiles that share an edge.
use Rattle.std.specs.Prelude.{◌≡◌, ◌≢◌, ◌⊎◌, ℕ, ◌<◌, ℤ, pos, ◌+ℤ◌, List, All, AllPairs, Contains, Some, slice_get}
use Rattle.mask_tiles.specs.declared.tile.Tile.{Tile}
use Rattle.union_find.specs.declared.pair.Pair.{Pair}
use Rattle.mask_tiles.specs.Tiles.{InTile}

-- the squares at (x, y) and (u, v) share an edge
abbrev pub Beside : ℤ → ℤ → ℤ → ℤ → Type 0
Beside x y u v = (y ≡ v) × (u ≡ x +ℤ pos 1 ⊎ x ≡ u +ℤ pos 1) ⊎ (x ≡ u) × (v ≡ y +ℤ pos 1 ⊎ y ≡ v +ℤ pos 1)

-- a square of the one shares an edge with a square of the other
pub record Touch (s t : Tile) : Type 0 where
  pub x : ℤ
  pub y : ℤ
  pub u : ℤ
  pub v : ℤ
  pub in_first : InTile s x y
  pub in_second : InTile t u v
  pub beside : Beside x y u v

-- the tiles with these numbers share an edge, and the first number is the lower one
pub record TouchAt (tiles : List Tile) (a b : ℕ) : Type 0 where
  pub order : a < b
  pub first : Tile
  pub second : Tile
  pub at_first : slice_get tiles a ≡ Some first
  pub at_second : slice_get tiles b ≡ Some second
  pub touch : Touch first second

-- the list has exactly the pairs of numbers of tiles that touch, each once
pub record AreTouching (tiles : List Tile) (pairs : List Pair) : Type 0 where
  pub each : All (λ p. TouchAt tiles p.a p.b) pairs
  pub all : (p : Pair) → TouchAt tiles p.a p.b → Contains pairs p
  pub once : AllPairs (λ p q. p ≢ q) pairs
