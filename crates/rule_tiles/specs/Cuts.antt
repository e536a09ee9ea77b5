-- The tiles of contact cuts.
use Rattle.std.specs.Prelude.{◌≡◌, ◌↔◌, ◌⊎◌, ℕ, ◌<◌, List, length, Bool, true, false, ℤ, pos, neg_ℤ, ◌+ℤ◌}
use Rattle.std.specs.Prelude.{Option, Some, None, IsSome, MatchOption, slice_get, slice_index_or, ◌≤ℤ◌}
use Rattle.std.specs.List.{AllZip}
use Rattle.lam_geom.specs.declared.layer.Layer.{Layer}
use Rattle.lam_geom.specs.declared.layer.Layer.TheVariants.{ND, NP, NM}
use Rattle.lam_geom.specs.declared.place.Point.{Point}
use Rattle.lam_geom.specs.declared.rect.Rect.{Rect}
use Rattle.lam_geom.specs.Moves.{IsNear}
use Rattle.lam_geom.specs.Rules.{IsWhole}
use Rattle.mask_tiles.specs.declared.tile.Tile.{Tile}
use Rattle.mask_tiles.specs.Touching.{TouchAt}

-- the tile is a block of two lambda
pub record IsCutSize (t : Tile) : Type 0 where
  pub wide : t.x1 ≡ t.x0 +ℤ pos 1000
  pub tall : t.y1 ≡ t.y0 +ℤ pos 1000

-- the tile of this number is no such block
abbrev pub IsUnsizedAt : List Tile → ℕ → Type 0
IsUnsizedAt tiles i = (t : Tile) × (slice_get tiles i ≡ Some t) × ¬ IsCutSize t

-- nor is it one alone where another tile touches it
abbrev pub IsOddAt : List Tile → ℕ → Type 0
IsOddAt tiles i = IsUnsizedAt tiles i ⊎ ((j : ℕ) × (TouchAt tiles i j ⊎ TouchAt tiles j i))

-- its lower left square
abbrev pub low_square : Tile → Point
low_square t = record { x = t.x0; y = t.y0 }

-- which of so many numbers are of a kind
pub record AreFlags (Is : ℕ → Type 0) (count : ℕ) (flags : List Bool) : Type 0 where
  pub long : length flags ≡ count
  pub each : (i : ℕ) (d : Bool) → i < count → (slice_index_or flags i d ≡ true) ↔ Is i

-- the first square of the first tile whose flag is set
pub record IsFirstAt (tiles : List Tile) (flags : List Bool) (p : Point) : Type 0 where
  pub number : ℕ
  pub tile : Tile
  pub at : slice_get tiles number ≡ Some tile
  pub set : slice_index_or flags number false ≡ true
  pub x : p.x ≡ tile.x0
  pub y : p.y ≡ tile.y0
  pub others : (j : ℕ) → j < number → slice_index_or flags j false ≡ false

abbrev pub IsFirstFlag : List Tile → List Bool → Option Point → Type 0
IsFirstFlag tiles flags (Some p) = IsFirstAt tiles flags p
IsFirstFlag tiles flags None = (j : ℕ) → j < length tiles → slice_index_or flags j false ≡ false

-- the tile begins near the origin, and so does the block around it
pub record IsNearTile (t : Tile) : Type 0 where
  pub x0 : IsNear t.x0
  pub y0 : IsNear t.y0

pub record IsNearCorner (p : Point) : Type 0 where
  pub left : neg_ℤ (pos 2_199_023_255_552) ≤ℤ p.x
  pub right : p.x ≤ℤ pos 2_199_023_255_552
  pub bottom : neg_ℤ (pos 2_199_023_255_552) ≤ℤ p.y
  pub top : p.y ≤ℤ pos 2_199_023_255_552

-- where the block a lambda wider than the tile begins
abbrev pub corner_of : Tile → Point
corner_of t = record { x = t.x0 +ℤ neg_ℤ (pos 500); y = t.y0 +ℤ neg_ℤ (pos 500) }

-- the block of this side from a corner
abbrev pub block_of : ℕ → Point → Rect
block_of side p = record { layer = ND; x0 = p.x; y0 = p.y; x1 = p.x +ℤ pos side; y1 = p.y +ℤ pos side }

-- none for each corner whose block of this side is whole, and some for the others
abbrev pub AreGaps : (ℤ → ℤ → Type 0) → ℕ → List Point → List (Option ℕ) → Type 0
AreGaps on side corners gaps =
    AllZip (λ p gap. MatchOption gap (IsWhole on p.x p.y side) (λ n. ¬ IsWhole on p.x p.y side)) corners gaps

-- metal, and polysilicon or diffusion, cover the block of two lambda and one around from the corner
abbrev pub IsBacked : (Layer → ℤ → ℤ → Type 0) → Point → Type 0
IsBacked covers p =
    IsWhole (covers NM) p.x p.y 2000 × (IsWhole (covers NP) p.x p.y 2000 ⊎ IsWhole (covers ND) p.x p.y 2000)

-- the cut of this number isn't odd, and its block lacks metal, or polysilicon and diffusion
abbrev pub IsBareAt : (Layer → ℤ → ℤ → Type 0) → List Point → List Bool → ℕ → Type 0
IsBareAt covers corners odd i =
    (slice_index_or odd i true ≡ false) × ((p : Point) → slice_get corners i ≡ Some p → ¬ IsBacked covers p)

abbrev pub IsJoined : List Bool → List (Option ℕ) → List (Option ℕ) → List (Option ℕ) → ℕ → Type 0
IsJoined odd metal polysilicon diffusion i =
    (slice_index_or odd i true ≡ false)
    × (IsSome (slice_index_or metal i None)
    ⊎ IsSome (slice_index_or polysilicon i None) × IsSome (slice_index_or diffusion i None))
