-- What is found of points.
use Rattle.std.specs.Prelude.{◌≡◌, List, ◌++◌, Contains, Bool, true, false, Option, Some, None, ℤ, pos, ◌-ℤ◌, Vec}
use Rattle.std.specs.List.{AllZip}
use Rattle.lam_geom.specs.declared.layer.Layer.{Layer}
use Rattle.lam_geom.specs.declared.place.Point.{Point}
use Rattle.lam_geom.specs.declared.rect.Rect.{Rect}
use Rattle.lam_geom.specs.Moves.{IsNearRect}
use Rattle.poly_split.specs.Moving.{Laying, laid_point, Fills}
use Rattle.cif_form.specs.Place.{Scale, IsScaled, IsScaledPoint, dot, cell}
use Rattle.cif_form.specs.Walk.{IsWholePoint}
use Rattle.cif_place.specs.declared.placement.Placement.{Placement}
use Rattle.cif_place.specs.Placing.{place_of}

-- the placement, as what lays polygons down
abbrev pub laying_of : Placement → Laying
laying_of p = record { swaps = p.swaps; flips_x = p.flips_x; flips_y = p.flips_y; dx = p.dx; dy = p.dy }

-- the point of these half-units is whole and near where it is scaled and placed, and this is the lower left corner of
-- the
-- square to its upper right, which is placed like it
abbrev pub IsCornerAt : Scale → Placement → ℤ → ℤ → Point → Type 0
IsCornerAt s p x y corner =
    (h v : ℤ) × IsScaled s x h × IsScaled s y v × IsNearRect (place_of p (dot h v))
    × (corner.x ≡ (place_of p (cell h v)).x0) × (corner.y ≡ (place_of p (cell h v)).y0)

-- it isn't whole, or it isn't near
abbrev pub IsFarDotAt : Scale → Placement → ℤ → ℤ → Type 0
IsFarDotAt s p x y = (h v : ℤ) → IsScaled s x h → IsScaled s y v → ¬ IsNearRect (place_of p (dot h v))

abbrev pub backed_if : Bool → ℤ → ℤ
backed_if true z = z -ℤ pos 1
backed_if false z = z

abbrev pub HasUnevenPoint : Scale → List Point → Type 0
HasUnevenPoint s path = (p : Point) × Contains path p × ¬ IsWholePoint s p

abbrev pub HasFarPoint : Scale → Placement → List Point → Type 0
HasFarPoint s w path =
    (p q : Point) × Contains path p × IsScaledPoint s p q × ¬ IsNearRect (place_of w (dot q.x q.y))

-- the point is near where it is scaled and placed, and this is where
abbrev pub IsPlacedPoint : Scale → Placement → Point → Point → Type 0
IsPlacedPoint s w p o =
    (q : Point) × IsScaledPoint s p q × IsNearRect (place_of w (dot q.x q.y)) × (o ≡ laid_point (laying_of w) q)

-- the points where they are scaled and placed, or some point isn't near there
abbrev pub ArePlaced : {A : Type 0} → Scale → Placement → List Point → Option (Vec Point A) → Type 0
ArePlaced s w path (Some points) = AllZip (IsPlacedPoint s w) path points.items
ArePlaced s w path None = HasFarPoint s w path

abbrev pub on_layer : Layer → Rect → Rect
on_layer layer r = record { layer = layer; x0 = r.x0; y0 = r.y0; x1 = r.x1; y1 = r.y1 }

-- rectangles that fill the polygon were drawn
abbrev pub IsDrawnPolygon : Layer → List Point → List Rect → List Rect → Type 0
IsDrawnPolygon layer points old new = (rs : List Rect) × Fills layer points rs × (new ≡ old ++ rs)
