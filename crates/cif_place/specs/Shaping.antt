-- What is found of boxes and wires.
use Rattle.std.specs.Prelude.{◌≡◌, ◌≢◌, ◌⊎◌, List, [], ◌∷◌, ◌++◌, map, All, Contains, Bool, true, false, ℤ}
use Rattle.lam_geom.specs.declared.layer.Layer.{Layer}
use Rattle.lam_geom.specs.declared.place.Point.{Point}
use Rattle.lam_geom.specs.declared.rect.Rect.{Rect}
use Rattle.lam_geom.specs.Moves.{IsNearRect}
use Rattle.cif_form.specs.Place.{Scale, IsOnAxis, IsAround, IsBox, segments, AreSegments}
use Rattle.cif_place.specs.declared.edges.Edges.{Edges}
use Rattle.cif_place.specs.declared.edges.Extent.{Extent}
use Rattle.cif_place.specs.declared.placement.Placement.{Placement}
use Rattle.cif_place.specs.declared.ratio.Ratio.{Ratio}
use Rattle.cif_place.specs.declared.shape.BoxFault.{BoxFault}
use Rattle.cif_place.specs.declared.shape.BoxFault.TheVariants as faults
use Rattle.cif_place.specs.declared.shape.Wired.{Wired}
use Rattle.cif_place.specs.declared.shape.Wired.TheVariants.{Uneven, Far, Drawn}
use Rattle.cif_place.specs.Placing.{AreSmall, scale_of, rect_of, place_of}

-- whatever the layer is, these are the edges of a rectangle of this extent
abbrev pub IsAroundCenter : Ratio → Extent → Point → Edges → Type 0
IsAroundCenter ratio extent center e =
    ((l : Layer) → IsAround (scale_of ratio) l center center extent.across extent.up (rect_of l e)) × AreSmall e

-- there are none
abbrev pub IsUneven : Ratio → Extent → Point → BoxFault → Type 0
IsUneven ratio extent center fault =
    (fault ≡ faults.Uneven)
    × ((l : Layer) (r : Rect) → ¬ IsAround (scale_of ratio) l center center extent.across extent.up r)

-- whatever the layer is, these are the edges of the box
abbrev pub IsBoxEdges : Ratio → Extent → Point → Point → Edges → Type 0
IsBoxEdges ratio extent center direction e =
    IsOnAxis direction
    × ((l : Layer) → IsBox (scale_of ratio) l extent.across extent.up center direction (rect_of l e)) × AreSmall e

-- the box is off the axes, or has no edges
abbrev pub IsBoxFault : Ratio → Extent → Point → Point → BoxFault → Type 0
IsBoxFault ratio extent center direction faults.Askew = ¬ IsOnAxis direction
IsBoxFault ratio extent center direction faults.Uneven =
    IsOnAxis direction
    × ((l : Layer) (r : Rect) → ¬ IsBox (scale_of ratio) l extent.across extent.up center direction r)

-- along an axis
abbrev pub IsStraight : Point × Point → Type 0
IsStraight p = (p.0.x ≡ p.1.x) ⊎ (p.0.y ≡ p.1.y)

abbrev pub HasAskewSegment : List Point → Type 0
HasAskewSegment path = (p : Point × Point) × Contains (segments path) p × (p.0.x ≢ p.1.x) × (p.0.y ≢ p.1.y)

-- near where it is laid
abbrev pub IsNearAt : Placement → Edges → Type 0
IsNearAt p e = (l : Layer) → IsNearRect (place_of p (rect_of l e))

abbrev pub IsFarAt : Placement → Edges → Type 0
IsFarAt p e = (l : Layer) → ¬ IsNearRect (place_of p (rect_of l e))

-- the rectangle was drawn if it is near; the answer is that it is, and others are
abbrev pub IsDrawnIfNear : Bool → Layer → Edges → List Rect → List Rect → Bool → Type 0
IsDrawnIfNear others layer e old new true =
    (others ≡ true) × ((l : Layer) → IsNearRect (rect_of l e)) × (new ≡ old ++ (rect_of layer e ∷ []))
IsDrawnIfNear others layer e old new false = (others ≡ false) ⊎ ((l : Layer) → ¬ IsNearRect (rect_of l e))

-- whatever the layer is, the segments of the wire have these edges
abbrev pub HaveEdges : Scale → ℤ → List (Point × Point) → List Edges → Type 0
HaveEdges s wide segs es = (l : Layer) → AreSegments s l wide segs (map (rect_of l) es)

abbrev pub drawn : Placement → Layer → List Edges → List Rect
drawn p layer es = map (λ e. place_of p (rect_of layer e)) es

abbrev pub IsWired : Scale → Placement → Layer → ℤ → List (Point × Point) → List Rect → List Rect → Wired → Type 0
IsWired s p layer wide segs old new Uneven = (l : Layer) (rs : List Rect) → ¬ AreSegments s l wide segs rs
IsWired s p layer wide segs old new Far =
    (es : List Edges) × HaveEdges s wide segs es × ((e : Edges) × Contains es e × IsFarAt p e)
IsWired s p layer wide segs old new Drawn =
    (es : List Edges) × HaveEdges s wide segs es × All (IsNearAt p) es × (new ≡ old ++ drawn p layer es)

-- what was drawn of a wire so far
abbrev pub IsWiredSoFar : Scale → Placement → Layer → ℤ → List (Point × Point) → List Rect → List Rect → Bool → Type 0
IsWiredSoFar s p layer wide segs old new true = IsWired s p layer wide segs old new Drawn
IsWiredSoFar s p layer wide segs old new false = IsWired s p layer wide segs old new Far
