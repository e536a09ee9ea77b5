-- The squares inside polygons of axis edges.
use Rattle.std.specs.Prelude.{◌≡◌, ◌&&◌, Bool, true, false, not, List, [], ◌∷◌, ℤ, int_lt}
use Rattle.std.specs.Ordering.{int_eq}
use Rattle.lam_geom.specs.declared.place.Point.{Point}

-- the edges from a point along a path and on to its end
abbrev pub sides_from : Point → Point → List Point → List (Point × Point)
sides_from end p [] = (p, end) ∷ []
sides_from end p (q ∷ ps) = (p, q) ∷ sides_from end q ps

-- the edges of a polygon, the last of them back to the first point
abbrev pub sides : List Point → List (Point × Point)
sides [] = []
sides (p ∷ ps) = sides_from p p ps

-- one of the two, but not both
abbrev pub differ : Bool → Bool → Bool
differ true b = not b
differ false b = b

-- whether the test is true of an odd number of them
abbrev pub odd : {X : Type 0} → (X → Bool) → List X → Bool
odd test [] = false
odd test (x ∷ xs) = differ (test x) (odd test xs)

-- whether the ray from the centre of the square at (x, y) to the right crosses the edge: it is vertical and on the right,
-- and one of its ends is above the ray and the other below
abbrev pub crosses : ℤ → ℤ → Point × Point → Bool
crosses x y side =
    int_eq side.0.x side.1.x && int_lt x side.0.x && differ (int_lt y side.0.y) (int_lt y side.1.y)

-- the ray to the right crosses an odd number of the polygon's edges
abbrev pub IsInside : List Point → ℤ → ℤ → Type 0
IsInside points x y = odd (crosses x y) (sides points) ≡ true
