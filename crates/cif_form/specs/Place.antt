-- The rectangles of boxes, wires and polygons, scaled, and what the turns of a call do with them.
use Rattle.std.specs.List.{AllZip}
use Rattle.std.specs.Prelude.{ℕ, ◌≡◌, ◌≢◌, ◌⊎◌, List, [], ◌∷◌, ◌++◌, codes, ℤ, pos, ◌+ℤ◌, ◌-ℤ◌, ◌*ℤ◌, ◌<ℤ◌, ◌≤ℤ◌, neg_ℤ}
use Rattle.lam_geom.specs.declared.layer.Layer.{Layer}
use Rattle.lam_geom.specs.declared.layer.Layer.TheVariants.{ND, NP, NC, NM, NI, NB, NG}
use Rattle.lam_geom.specs.declared.place.Point.{Point}
use Rattle.lam_geom.specs.declared.rect.Rect.{Rect}
use Rattle.poly_split.specs.Moving.{Fills}
use Rattle.cif_form.specs.declared.command.Turn.{Turn}
use Rattle.cif_form.specs.declared.command.Turn.TheVariants.{Move, MirrorX, MirrorY, Rotate}
use Rattle.cif_form.specs.declared.command.Command.{Command}
use Rattle.cif_form.specs.declared.command.Command.TheVariants.{Box, Wire, Polygon}

abbrev pub layer_name : Layer → List ℕ
layer_name ND = codes "ND"
layer_name NP = codes "NP"
layer_name NC = codes "NC"
layer_name NM = codes "NM"
layer_name NI = codes "NI"
layer_name NB = codes "NB"
layer_name NG = codes "NG"

-- the scale a/b of a definition
pub record Scale : Type 0 where
  pub a : ℤ
  pub b : ℤ

abbrev pub IsScale : Scale → Type 0
IsScale s = (pos 0 <ℤ s.a) × (pos 0 <ℤ s.b)

-- the scale of the top level
abbrev pub unit : Scale
unit = record { a = pos 1; b = pos 1 }

-- w written at this scale is z
abbrev pub IsScaled : Scale → ℤ → ℤ → Type 0
IsScaled s w z = (pos 0 <ℤ s.b) × (s.b *ℤ z ≡ s.a *ℤ w)

-- along the x axis or the y axis, and not 0 0
abbrev pub IsOnAxis : Point → Type 0
IsOnAxis p = (p.y ≡ pos 0) × (p.x ≢ pos 0) ⊎ (p.x ≡ pos 0) × (p.y ≢ pos 0)

-- in half-units, the rectangle from these corners, in units, `across` half-units out to the left and right and `up`
-- below and above
pub record IsAround (s : Scale) (l : Layer) (low high : Point) (across up : ℤ) (r : Rect) : Type 0 where
  pub layer : r.layer ≡ l
  pub left : IsScaled s (pos 2 *ℤ low.x -ℤ across) r.x0
  pub right : IsScaled s (pos 2 *ℤ high.x +ℤ across) r.x1
  pub bottom : IsScaled s (pos 2 *ℤ low.y -ℤ up) r.y0
  pub top : IsScaled s (pos 2 *ℤ high.y +ℤ up) r.y1

-- the length of a box lies along its direction
abbrev pub IsBox : Scale → Layer → ℤ → ℤ → Point → Point → Rect → Type 0
IsBox s l long wide center direction r =
    (direction.y ≡ pos 0) × (direction.x ≢ pos 0) × IsAround s l center center long wide r
    ⊎ (direction.x ≡ pos 0) × (direction.y ≢ pos 0) × IsAround s l center center wide long r

-- the rectangle of a wire between two points of a line along an axis, half the width past both
pub record IsSegment (s : Scale) (l : Layer) (wide : ℤ) (p q : Point) (r : Rect) : Type 0 where
  pub on_axis : (p.x ≡ q.x) ⊎ (p.y ≡ q.y)
  pub low : Point
  pub high : Point
  pub ends : (low ≡ p) × (high ≡ q) ⊎ (low ≡ q) × (high ≡ p)
  pub across : low.x ≤ℤ high.x
  pub upward : low.y ≤ℤ high.y
  pub around : IsAround s l low high wide wide r

-- the segments of a path: a path of one point has one, from the point to itself
abbrev pub segments : List Point → List (Point × Point)
segments [] = []
segments (p ∷ []) = (p, p) ∷ []
segments (p ∷ q ∷ []) = (p, q) ∷ []
segments (p ∷ q ∷ o ∷ ps) = (p, q) ∷ segments (q ∷ o ∷ ps)

abbrev pub AreSegments : Scale → Layer → ℤ → List (Point × Point) → List Rect → Type 0
AreSegments s l wide [] [] = Unit {0}
AreSegments s l wide (p ∷ ps) (r ∷ rs) = IsSegment s l wide p.0 p.1 r × AreSegments s l wide ps rs
AreSegments s l wide _ _ = ⊥

-- a point in units, and the same in half-units at this scale
abbrev pub IsScaledPoint : Scale → Point → Point → Type 0
IsScaledPoint s p q = IsScaled s (pos 2 *ℤ p.x) q.x × IsScaled s (pos 2 *ℤ p.y) q.y

-- the rectangles of one command, before they are placed: those of a polygon are any that fill it
abbrev pub HasEdges : Scale → Layer → Command → List Rect → Type 0
HasEdges s l (Box long wide center direction) rs = (r : Rect) × (rs ≡ r ∷ []) × IsBox s l long wide center direction r
HasEdges s l (Wire wide path) rs = AreSegments s l wide (segments path) rs
HasEdges s l (Polygon path) rs = (points : List Point) × AllZip (IsScaledPoint s) path points × Fills l points rs
HasEdges s l _ rs = ⊥

-- what a turn of a call does, its numbers in half-units; a quarter is against the clock
pub data Motion : Type 0 where
  Shift : ℤ → ℤ → Motion
  NegateX : Motion
  NegateY : Motion
  Quarter : Motion

unfoldable pub moved : Motion → Rect → Rect
moved (Shift dx dy) r = record { layer = r.layer; x0 = r.x0 +ℤ dx; y0 = r.y0 +ℤ dy; x1 = r.x1 +ℤ dx; y1 = r.y1 +ℤ dy }
moved NegateX r = record { layer = r.layer; x0 = neg_ℤ r.x1; y0 = r.y0; x1 = neg_ℤ r.x0; y1 = r.y1 }
moved NegateY r = record { layer = r.layer; x0 = r.x0; y0 = neg_ℤ r.y1; x1 = r.x1; y1 = neg_ℤ r.y0 }
moved Quarter r = record { layer = r.layer; x0 = neg_ℤ r.y1; y0 = r.x0; x1 = neg_ℤ r.y0; y1 = r.x1 }

-- one motion after another, from the left
abbrev pub placed : List Motion → Rect → Rect
placed [] r = r
placed (m ∷ ms) r = placed ms (moved m r)

-- The motions of one turn: a move has the scale of the place where the call is written, and a rotation turns the x axis
-- to the direction of its point.
abbrev pub IsMotion : Scale → Turn → List Motion → Type 0
IsMotion s (Move p) ms =
    (dx dy : ℤ) × IsScaled s (pos 2 *ℤ p.x) dx × IsScaled s (pos 2 *ℤ p.y) dy × (ms ≡ Shift dx dy ∷ [])
IsMotion s MirrorX ms = ms ≡ NegateX ∷ []
IsMotion s MirrorY ms = ms ≡ NegateY ∷ []
IsMotion s (Rotate p) ms = (p.y ≡ pos 0) × (pos 0 <ℤ p.x) × (ms ≡ [])
    ⊎ (p.x ≡ pos 0) × (pos 0 <ℤ p.y) × (ms ≡ Quarter ∷ [])
    ⊎ (p.y ≡ pos 0) × (p.x <ℤ pos 0) × (ms ≡ Quarter ∷ Quarter ∷ [])
    ⊎ (p.x ≡ pos 0) × (p.y <ℤ pos 0) × (ms ≡ Quarter ∷ Quarter ∷ Quarter ∷ [])

abbrev pub AreMotions : Scale → List Turn → List Motion → Type 0
AreMotions s [] ms = ms ≡ []
AreMotions s (t ∷ ts) ms = (front rest : List Motion) × (ms ≡ front ++ rest) × IsMotion s t front × AreMotions s ts rest

-- a point, as a rectangle without squares that is placed as shapes are
abbrev pub dot : ℤ → ℤ → Rect
dot x y = record { layer = ND; x0 = x; y0 = y; x1 = x; y1 = y }

-- the square to the upper right of a point, which is placed as shapes are: the square that touches the placed point in
-- the turned direction of (1, 1)
abbrev pub cell : ℤ → ℤ → Rect
cell x y = record { layer = ND; x0 = x; y0 = y; x1 = x +ℤ pos 1; y1 = y +ℤ pos 1 }
