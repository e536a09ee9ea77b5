-- Areas as lists of rectangles, whatever their layers are.
use Rattle.std.specs.Prelude.{◌≡◌, ◌≢◌, ◌↔◌, ◌⊎◌, ℕ, List, [], ◌∷◌, ◌++◌, map, filter, nat_eq, All, AllPairs}
use Rattle.std.specs.Prelude.{ℤ, pos, neg_ℤ, ◌+ℤ◌, ◌≤ℤ◌, ◌<ℤ◌}
use Rattle.lam_geom.specs.declared.layer.Layer.{Layer}
use Rattle.lam_geom.specs.declared.layer.Layer.TheVariants.{ND}
use Rattle.lam_geom.specs.declared.rect.Rect.{Rect}
use Rattle.lam_geom.specs.declared.place.Point.{Point}
use Rattle.mask_tiles.specs.declared.tile.Tile.{Tile}

-- the rectangle on a layer, grown to the left and down, and to the right and up
abbrev pub grown : Layer → ℕ → ℕ → Rect → Rect
grown l before after r = record {
  layer = l;
  x0 = r.x0 +ℤ neg_ℤ (pos before);
  y0 = r.y0 +ℤ neg_ℤ (pos before);
  x1 = r.x1 +ℤ pos after;
  y1 = r.y1 +ℤ pos after;
}

-- the square is one of the rectangle so grown
pub record Reaches (before after : ℕ) (r : Rect) (x y : ℤ) : Type 0 where
  pub left : (r.x0 +ℤ neg_ℤ (pos before)) ≤ℤ x
  pub right : x <ℤ (r.x1 +ℤ pos after)
  pub bottom : (r.y0 +ℤ neg_ℤ (pos before)) ≤ℤ y
  pub top : y <ℤ (r.y1 +ℤ pos after)

-- it is one of some rectangle of the list so grown
abbrev pub reached : ℕ → ℕ → List Rect → ℤ → ℤ → Type 0
reached before after [] x y = ⊥
reached before after (r ∷ rs) x y = Reaches before after r x y ⊎ reached before after rs x y

-- it is one of the area
abbrev pub held : List Rect → ℤ → ℤ → Type 0
held = reached 0 0

-- the rectangle has squares
pub record IsSolid (r : Rect) : Type 0 where
  pub wide : r.x0 <ℤ r.x1
  pub tall : r.y0 <ℤ r.y1

-- its lower left square comes first by y and then by x
abbrev pub IsBefore : Rect → Rect → Type 0
IsBefore r q = (r.y0 <ℤ q.y0) ⊎ (r.y0 ≡ q.y0) × (r.x0 <ℤ q.x0)

-- the area has exactly the squares of a kind, by rectangles in order
pub record IsAreaOf (Is : ℤ → ℤ → Type 0) (area : List Rect) : Type 0 where
  pub same : (x y : ℤ) → held area x y ↔ Is x y
  pub solid : All IsSolid area
  pub ordered : AllPairs IsBefore area

-- a square of the one that isn't one of the other
abbrev pub Lacks : (ℤ → ℤ → Type 0) → (ℤ → ℤ → Type 0) → ℤ → ℤ → Type 0
Lacks from taken x y = from x y × ¬ taken x y

-- the square of squares about the origin whose edges are so far off
abbrev pub field : ℤ → Rect
field edge = record { layer = ND; x0 = neg_ℤ edge; y0 = neg_ℤ edge; x1 = edge; y1 = edge }

-- the edges of the rectangle are at most 2^42 from the origin
pub record IsOnField (r : Rect) : Type 0 where
  pub x0 : neg_ℤ (pos 4_398_046_511_104) ≤ℤ r.x0
  pub y0 : neg_ℤ (pos 4_398_046_511_104) ≤ℤ r.y0
  pub x1 : r.x1 ≤ℤ pos 4_398_046_511_104
  pub y1 : r.y1 ≤ℤ pos 4_398_046_511_104
  pub x0_high : r.x0 ≤ℤ pos 4_398_046_511_104
  pub y0_high : r.y0 ≤ℤ pos 4_398_046_511_104
  pub x1_low : neg_ℤ (pos 4_398_046_511_104) ≤ℤ r.x1
  pub y1_low : neg_ℤ (pos 4_398_046_511_104) ≤ℤ r.y1

-- a block of this side about each of its squares is in the rectangle
pub record IsWide (size : ℕ) (r : Rect) : Type 0 where
  pub wide : (r.x0 +ℤ pos size) ≤ℤ r.x1
  pub tall : (r.y0 +ℤ pos size) ≤ℤ r.y1

-- the rectangle of a tile
abbrev pub rect_of : Tile → Rect
rect_of t = record { layer = ND; x0 = t.x0; y0 = t.y0; x1 = t.x1; y1 = t.y1 }

-- the tiles of colour 1 as rectangles
abbrev pub bare_of : List Tile → List Rect
bare_of tiles = map rect_of (filter (λ t. nat_eq t.colour 1) tiles)

-- the rectangle was added if it is of the layer
abbrev pub Keeps : Layer → Rect → List Rect → List Rect → Type 0
Keeps l r old new = (r.layer ≡ l) × (new ≡ old ++ r ∷ []) ⊎ (r.layer ≢ l) × (new ≡ old)

-- the tile was added if its colour is 1
abbrev pub KeepsBare : Tile → List Rect → List Rect → Type 0
KeepsBare t old new = (t.colour ≡ 1) × (new ≡ old ++ rect_of t ∷ []) ⊎ (t.colour ≢ 1) × (new ≡ old)

-- the lower left square
abbrev pub low_corner : Rect → Point
low_corner r = record { x = r.x0; y = r.y0 }
