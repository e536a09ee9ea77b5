-- Blocks around contact cuts that lie in single tiles.
use Rattle.std.specs.Prelude.{◌≡◌, ◌⊎◌, ℕ, ◌<◌, List, Bool, true, false, Some, slice_get, slice_index_or, Contains}
use Rattle.std.specs.Prelude.{ℤ, pos, ◌+ℤ◌, ◌≤ℤ◌, All, length}
use Rattle.lam_geom.specs.declared.layer.Layer.{Layer}
use Rattle.lam_geom.specs.declared.layer.Layer.TheVariants.{ND, NP, NM}
use Rattle.lam_geom.specs.declared.place.Point.{Point}
use Rattle.lam_geom.specs.declared.rect.Rect.{Rect}
use Rattle.mask_runs.specs.declared.mask.Mask.TheVariants.{Only}
use Rattle.mask_tiles.specs.declared.tile.Tile.{Tile}
use Rattle.mask_tiles.specs.Tiles.{IsTile}
use Rattle.rule_tiles.specs.declared.backed.Conductors.{Conductors}
use Rattle.rule_tiles.specs.Cuts.{IsBacked}

-- the tile holds the block of two lambda and one around from the corner
pub record HoldsBlock (t : Tile) (p : Point) : Type 0 where
  pub across : (t.x0 ≤ℤ p.x) × ((p.x +ℤ pos 2000) ≤ℤ t.x1)
  pub along : (t.y0 ≤ℤ p.y) × ((p.y +ℤ pos 2000) ≤ℤ t.y1)

-- some tile does
abbrev pub Holds : List Tile → Point → Type 0
Holds tiles p = (t : Tile) × Contains tiles t × HoldsBlock t p

-- one of metal does, and one of polysilicon or of diffusion
abbrev pub IsHeld : Conductors → Point → Type 0
IsHeld c p = Holds c.metal.tiles p × (Holds c.polysilicon.tiles p ⊎ Holds c.diffusion.tiles p)

-- the first so many cuts are odd, or so held
abbrev pub AreAllHeld : Conductors → List Point → List Bool → ℕ → Type 0
AreAllHeld c corners odd count =
    (i : ℕ) (p : Point) → i < count → slice_index_or odd i true ≡ false → slice_get corners i ≡ Some p → IsHeld c p

-- the tiles are those of the conductors
pub record AreSwept (shapes : List Rect) (c : Conductors) : Type 0 where
  pub metal : All (IsTile shapes (Only NM)) c.metal.tiles
  pub polysilicon : All (IsTile shapes (Only NP)) c.polysilicon.tiles
  pub diffusion : All (IsTile shapes (Only ND)) c.diffusion.tiles

-- the cuts that aren't odd are backed
abbrev pub AreBacked : (Layer → ℤ → ℤ → Type 0) → List Point → List Bool → Type 0
AreBacked covers corners odd =
    (i : ℕ) (p : Point) → i < length corners → slice_index_or odd i true ≡ false → slice_get corners i ≡ Some p
    → IsBacked covers p

-- so many flags, none of them set
pub record AreUnset (count : ℕ) (flags : List Bool) : Type 0 where
  pub long : length flags ≡ count
  pub each : (i : ℕ) (d : Bool) → i < count → slice_index_or flags i d ≡ false
