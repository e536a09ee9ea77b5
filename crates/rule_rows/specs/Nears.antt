-- Polysilicon that is near diffusion along its row.
use Rattle.std.specs.Prelude.{◌≡◌, ◌⊎◌, ◌↔◌, ℤ, pos, neg_ℤ, ◌+ℤ◌, ◌≤ℤ◌, ◌<ℤ◌, List, Option, Some}
use Rattle.lam_geom.specs.declared.layer.Layer.{Layer}
use Rattle.lam_geom.specs.declared.layer.Layer.TheVariants.{ND, NP, NB, NI}
use Rattle.lam_geom.specs.declared.rect.Rect.{Rect}
use Rattle.lam_geom.specs.Moves.{IsNear}
use Rattle.lam_geom.specs.Squares.{covered}
use Rattle.lam_geom.specs.Rules.{Way}
use Rattle.lam_geom.specs.Rules as rules
use Rattle.lam_geom.specs.Rules.Way.{right, left}
use Rattle.mask_tiles.specs.declared.tile.Tile.{Tile}

-- in a plan polysilicon is drawn as buried contacts, and diffusion as implant
abbrev pub drawn : List Rect → Layer → ℤ → ℤ → Type 0
drawn plan NP x y = covered plan NB x y
drawn plan ND x y = covered plan NI x y
drawn plan _ x y = ⊥

abbrev pub bound : ℤ
bound = pos 4_398_046_511_104

pub record IsInField (x y : ℤ) : Type 0 where
  pub left : neg_ℤ bound ≤ℤ x
  pub right : x <ℤ bound
  pub bottom : neg_ℤ bound ≤ℤ y
  pub top : y <ℤ bound

-- all of the field is a channel but for the polysilicon, which is near
pub record IsPlan (plan : List Rect) : Type 0 where
  pub diffusion : (x y : ℤ) → covered plan ND x y ↔ IsInField x y
  pub polysilicon : (x y : ℤ) → covered plan NP x y ↔ IsInField x y
  pub near : (x y : ℤ) → covered plan NB x y → IsNear x × IsNear y

-- near diffusion, in the row
abbrev pub IsNearInRow : List Rect → ℤ → ℤ → Type 0
IsNearInRow plan x y = rules.IsNear (drawn plan) right x y ⊎ rules.IsNear (drawn plan) left x y

-- the tile is polysilicon that ends at the diffusion, or it is a gap shorter than a lambda
pub record LeadsRight (from to : Tile) (x : ℤ) : Type 0 where
  pub meet : from.x1 ≡ to.x0
  pub start : (from.colour ≡ 1) × (x +ℤ pos 1 ≡ from.x1)
      ⊎ (from.colour ≡ 2) × (x +ℤ pos 1 ≡ from.x0) × (from.x1 <ℤ (from.x0 +ℤ pos 500))

pub record LeadsLeft (from to : Tile) (x : ℤ) : Type 0 where
  pub meet : to.x1 ≡ from.x0
  pub start : (from.colour ≡ 1) × (x ≡ from.x0)
      ⊎ (from.colour ≡ 2) × (x ≡ from.x1) × (from.x1 <ℤ (from.x0 +ℤ pos 500))

-- in a row of both, the one tile leads to the other, which is diffusion alone
pub record Leads (from to : Tile) (x y : ℤ) : Type 0 where
  pub diffusion : to.colour ≡ 3
  pub from_bottom : from.y0 ≤ℤ y
  pub from_top : y <ℤ from.y1
  pub to_bottom : to.y0 ≤ℤ y
  pub to_top : y <ℤ to.y1
  pub way : LeadsRight from to x ⊎ LeadsLeft from to x

-- the drawing covers, besides, the squares of the field from which the one tile leads to the other
abbrev pub AddsLeads : Tile → Tile → List Rect → List Rect → Type 0
AddsLeads from to old new =
    (l : Layer) (x y : ℤ)
    → covered new l x y ↔ covered old l x y ⊎ (l ≡ ND) × (neg_ℤ bound ≤ℤ x) × (x <ℤ bound) × Leads from to x y

-- of the squares of polysilicon, the drawing covers those that are near diffusion in their row
pub record IsLeading (plan rects : List Rect) : Type 0 where
  pub only : (l : Layer) (x y : ℤ) → covered rects l x y → l ≡ ND
  pub near : (x y : ℤ) → covered plan NB x y → covered rects ND x y ↔ IsNearInRow plan x y

-- the plan of a drawing
pub record IsPlanOf (shapes rects : List Rect) : Type 0 where
  pub plan : IsPlan rects
  pub polysilicon : (x y : ℤ) → covered rects NB x y ↔ covered shapes NP x y
  pub diffusion : (x y : ℤ) → covered rects NI x y ↔ covered shapes ND x y

-- the drawing has diffusion alone
abbrev pub IsOnlyDiffusion : List Rect → Type 0
IsOnlyDiffusion rects = (l : Layer) (x y : ℤ) → covered rects l x y → l ≡ ND

-- polysilicon alone, at a square that another drawing covers with diffusion
pub record IsAloneIn (shapes rects : List Rect) (x y : ℤ) : Type 0 where
  pub polysilicon : covered shapes NP x y
  pub bare : ¬ covered shapes ND x y
  pub led : covered rects ND x y

-- the field on a layer
abbrev pub field_on : Layer → Rect
field_on l = record { layer = l; x0 = neg_ℤ bound; y0 = neg_ℤ bound; x1 = bound; y1 = bound }

-- the column is one of the field
abbrev pub IsColumn : ℤ → Type 0
IsColumn x = (neg_ℤ bound ≤ℤ x) × (x <ℤ bound)

-- the drawing covers, besides, the column in the rows of both tiles
abbrev pub AddsColumn : Option ℤ → Tile → Tile → List Rect → List Rect → Type 0
AddsColumn column from to old new =
    (l : Layer) (x y : ℤ)
    → covered new l x y
    ↔ covered old l x y
    ⊎ (l ≡ ND) × (x <ℤ bound) × (column ≡ Some x) × ((from.y0 ≤ℤ y) × (to.y0 ≤ℤ y)) × (y <ℤ from.y1) × (y <ℤ to.y1)

-- a gap shorter than a lambda
pub record IsShortGap (t : Tile) : Type 0 where
  pub gap : t.colour ≡ 2
  pub short : t.x1 <ℤ (t.x0 +ℤ pos 500)

abbrev pub column_of : ℤ → ℤ → ℤ → Rect
column_of x bottom top = record { layer = ND; x0 = x; y0 = bottom; x1 = x +ℤ pos 1; y1 = top }
