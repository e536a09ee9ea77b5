-- What holds of all placements, boxes and wires.
use Rattle.std.specs.Prelude.{ℕ, ℤ, ◌≡◌, ◌+◌, List, All, map}
use Rattle.lam_geom.specs.declared.layer.Layer.{Layer}
use Rattle.lam_geom.specs.declared.place.Point.{Point}
use Rattle.lam_geom.specs.declared.rect.Rect.{Rect}
use Rattle.lam_geom.specs.Inside.{sides}
use Rattle.poly_split.specs.Splitting.{IsStraight}
use Rattle.poly_split.specs.Moving.{laid_point, Fills}
use Rattle.cif_form.specs.Place.{Scale, IsBox, AreSegments}
use Rattle.cif_place.specs.declared.placement.Placement.{Placement}
use Rattle.cif_place.specs.Placing.{place_of, here, after, IsHeld}
use Rattle.cif_place.specs.Pointing.{laying_of}

-- the placement `here` leaves rectangles where they are
abbrev pub HereLeaves : Type 0
HereLeaves = (r : Rect) → place_of here r ≡ r

-- one placement after another does what the one does behind the other
abbrev pub AfterPlaces : Type 0
AfterPlaces = (p q : Placement) (r : Rect) → place_of (after p q) r ≡ place_of p (place_of q r)

-- and shifts by at most the sum
abbrev pub AfterHolds : Type 0
AfterHolds = (m n : ℕ) (p q : Placement) → IsHeld m p → IsHeld n q → IsHeld (m + n) (after p q)

-- a box is one rectangle at most
abbrev pub OneBox : Type 0
OneBox = (s : Scale) (l : Layer) (long wide : ℤ) (center direction : Point) (r q : Rect)
    → IsBox s l long wide center direction r → IsBox s l long wide center direction q → r ≡ q

-- the segments of a wire are one list of rectangles at most
abbrev pub OneWire : Type 0
OneWire = (s : Scale) (l : Layer) (wide : ℤ) (segs : List (Point × Point)) (rs qs : List Rect)
    → AreSegments s l wide segs rs → AreSegments s l wide segs qs → rs ≡ qs

-- what fills a polygon of axis edges, placed, fills the polygon whose points are placed
abbrev pub FillingsArePlaced : Type 0
FillingsArePlaced = (p : Placement) (l : Layer) (ps : List Point) (rs : List Rect) → All IsStraight (sides ps)
    → Fills l ps rs → Fills l (map (laid_point (laying_of p)) ps) (map (place_of p) rs)

-- and what fills the polygon whose points are placed is placed of something that fills the polygon
abbrev pub FillingsAreFromPlaces : Type 0
FillingsAreFromPlaces = (p : Placement) (l : Layer) (ps : List Point) (rs : List Rect) → All IsStraight (sides ps)
    → Fills l (map (laid_point (laying_of p)) ps) rs → (qs : List Rect) × Fills l ps qs × (map (place_of p) qs ≡ rs)
