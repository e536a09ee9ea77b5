-- Gates that are closed all round.
use Rattle.std.specs.Prelude.{◌≡◌, ◌≢◌, ◌⊎◌, ◌↔◌, ℕ, List, [], ◌∷◌, ◌++◌, All, Contains, slice_index_or}
use Rattle.std.specs.Prelude.{ℤ, pos, neg_ℤ, ◌+ℤ◌, ◌≤ℤ◌, ◌<ℤ◌}
use Rattle.lam_geom.specs.declared.layer.Layer.{Layer}
use Rattle.lam_geom.specs.declared.layer.Layer.TheVariants.{ND, NP, NB, NI}
use Rattle.lam_geom.specs.declared.rect.Rect.{Rect}
use Rattle.lam_geom.specs.Squares.{covered}
use Rattle.mask_tiles.specs.declared.tile.Tile.{Tile}
use Rattle.mask_tiles.specs.Tiles.{InTile}
use Rattle.mask_tiles.specs.Touching.{Beside}
use Rattle.union_find.specs.declared.pair.Pair.{Pair}

-- polysilicon and diffusion are exchanged, and buried contacts are implant
pub record IsSwapped (shapes drawing : List Rect) : Type 0 where
  pub polysilicon : (x y : ℤ) → covered drawing ND x y ↔ covered shapes NP x y
  pub diffusion : (x y : ℤ) → covered drawing NP x y ↔ covered shapes ND x y
  pub buried : (x y : ℤ) → covered drawing NI x y ↔ covered shapes NB x y
  pub unburied : (x y : ℤ) → ¬ covered drawing NB x y

-- the columns of both overlap, or the second has two lambda of them; and so of rows
abbrev pub IsLongAcross : Tile → Tile → Type 0
IsLongAcross gate leg = (leg.x0 <ℤ gate.x1) × (gate.x0 <ℤ leg.x1) ⊎ (leg.x0 +ℤ pos 1000) ≤ℤ leg.x1

abbrev pub IsLongUp : Tile → Tile → Type 0
IsLongUp gate leg = (leg.y0 <ℤ gate.y1) × (gate.y0 <ℤ leg.y1) ⊎ (leg.y0 +ℤ pos 1000) ≤ℤ leg.y1

-- if the one is of channels and the other of polysilicon alone
abbrev pub FitsLeg : Tile → Tile → Type 0
FitsLeg gate leg = gate.colour ≡ 2 → leg.colour ≡ 1 → IsLongAcross gate leg × IsLongUp gate leg

abbrev pub tile : List Tile → ℕ → Tile
tile tiles n = slice_index_or tiles n (record { x0 = pos 0; y0 = pos 0; x1 = pos 0; y1 = pos 0; colour = 0 })

abbrev pub PairFits : List Tile → Pair → Type 0
PairFits tiles p = FitsLeg (tile tiles p.a) (tile tiles p.b) × FitsLeg (tile tiles p.b) (tile tiles p.a)

abbrev pub HaveLongLegs : List Tile → List Pair → Type 0
HaveLongLegs tiles pairs = All (PairFits tiles) pairs

-- the tile keeps off the ends of the plane
pub record IsInner (t : Tile) : Type 0 where
  pub left : neg_ℤ (pos 4_398_046_511_104) ≤ℤ t.x0
  pub right : t.x1 ≤ℤ pos 4_398_046_511_104
  pub bottom : neg_ℤ (pos 4_398_046_511_104) ≤ℤ t.y0
  pub top : t.y1 ≤ℤ pos 4_398_046_511_104

-- the tile with the squares beside it in its rows, and in its columns
abbrev pub across_of : Tile → Rect
across_of t = record { layer = ND; x0 = t.x0 +ℤ neg_ℤ (pos 1); y0 = t.y0; x1 = t.x1 +ℤ pos 1; y1 = t.y1 }

abbrev pub along_of : Tile → Rect
along_of t = record { layer = ND; x0 = t.x0; y0 = t.y0 +ℤ neg_ℤ (pos 1); x1 = t.x1; y1 = t.y1 +ℤ pos 1 }

abbrev pub AddsCross : Tile → List Rect → List Rect → Type 0
AddsCross t old new =
    (t.colour ≡ 2) × (new ≡ (old ++ across_of t ∷ []) ++ along_of t ∷ []) ⊎ (t.colour ≢ 2) × (new ≡ old)

-- the drawing has diffusion alone, among it the squares beside those of channels
pub record AreCrosses (tiles : List Tile) (rects : List Rect) : Type 0 where
  pub only : (l : Layer) (x y : ℤ) → covered rects l x y → l ≡ ND
  pub each : (t : Tile) → Contains tiles t → t.colour ≡ 2 → (x y u v : ℤ) → InTile t x y → Beside x y u v
      → covered rects ND u v

-- beside each square of a channel there is polysilicon or diffusion
abbrev pub AreBordered : (Layer → ℤ → ℤ → Type 0) → List Tile → Type 0
AreBordered covers tiles =
    (t : Tile) → Contains tiles t → t.colour ≡ 2 → (x y u v : ℤ) → InTile t x y → Beside x y u v
    → covers NP u v ⊎ covers ND u v

abbrev pub AreDeep : List Tile → Type 0
AreDeep tiles = All (λ t. t.colour ≢ 1) tiles
