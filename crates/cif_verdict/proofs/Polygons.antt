-- Whether a polygon has a place at a scale, and rectangles that fill it.
use Rattle.std.proofs.Common.{◌≡◌, ◌⊎◌, ◌↔◌, inl, inr, suc, ◌<◌, List, [], ◌∷◌, map, refl, sym, subst, arith}
use Rattle.std.specs.List.{AllZip}
use Rattle.std.specs.Prelude.{◌≢◌, All, Contains, ℤ, pos, ◌*ℤ◌}
use Rattle.std.proofs.lemmas.List.Elements.{All-nil, All-cons, All-head, All-tail, All-weaker, All-contains_itself}
use Rattle.mp_base.proofs.Decisions.{Decided, same_claim, both_of, not_so, is_integer}
use Rattle.lam_geom.specs.declared.layer.Layer.{Layer}
use Rattle.lam_geom.specs.declared.layer.Layer.TheVariants.{NM}
use Rattle.lam_geom.specs.declared.place.Point.{Point}
use Rattle.lam_geom.specs.declared.rect.Rect.{Rect}
use Rattle.lam_geom.specs.Moves.{IsNearRect}
use Rattle.lam_geom.specs.Squares.{covered}
use Rattle.lam_geom.specs.Inside.{sides_from, sides}
use Rattle.cif_form.specs.declared.command.Command.TheVariants.{Polygon}
use Rattle.cif_form.specs.Place.{Scale, IsScaled, IsScaledPoint, HasEdges, dot}
use Rattle.cif_form.specs.Walk.{IsWholePoint}
use Rattle.cif_form.proofs.OnePlace.{one_scaled}
use Rattle.poly_split.specs.Splitting.{IsStraight, IsAskew}
use Rattle.poly_split.specs.Polygons.{IsSolidMetal, PolygonsAreSplit}
use Rattle.cif_verdict.proofs.Deciding.{of_the_one}
use Rattle.cif_verdict.proofs.Scaling.{is_whole_point}
use Rattle.cif_verdict.proofs.Edges.{is_near_rect}

-- ---- points

some_scaled_point : (s : Scale) (p : Point) → Decided ((q : Point) × IsScaledPoint s p q)
some_scaled_point s p = same_claim (is_whole_point s p)
    (λ ((x, across), (y, up)). (record { x = x; y = y }, (across, up)))
    (λ (q, (across, up)). ((q.x, across), (q.y, up)))

one_scaled_point : (s : Scale) (p q o : Point) → IsScaledPoint s p q → IsScaledPoint s p o → q ≡ o
one_scaled_point s p q o h k =
    let x = one_scaled s _ q.x o.x h.0 k.0 in
    let y = one_scaled s _ q.y o.y h.1 k.1 in λ i. record { x = x i; y = y i }

module _ (s : Scale) (place : Rect → Rect) where
  -- a point is too far where it is placed
  abbrev pub IsPlacedFar : Point → Type 0
  IsPlacedFar p = (q : Point) × IsScaledPoint s p q × ¬ IsNearRect (place (dot q.x q.y))

  pub is_placed_far : (p : Point) → Decided (IsPlacedFar p)
  is_placed_far p = of_the_one (IsScaledPoint s p) (λ q. ¬ IsNearRect (place (dot q.x q.y))) (one_scaled_point s p)
      (some_scaled_point s p) (λ q. not_so (is_near_rect (place (dot q.x q.y))))

-- ---- edges

pub is_askew : (side : Point × Point) → Decided (IsAskew side)
is_askew side = both_of (not_so (is_integer side.0.x side.1.x)) (not_so (is_integer side.0.y side.1.y))

straight_or_askew : (side : Point × Point) → ¬ IsAskew side → IsStraight side
straight_or_askew side not = elim (is_integer side.0.x side.1.x) [
  | inl e ↦ inl e
  | inr across ↦ elim (is_integer side.0.y side.1.y) [ inl e ↦ inr e | inr up ↦ absurd (not (across, up)) ]
]

-- a scaled edge is along the axis that it was along
module _ (s : Scale) where
  same_scaled : (w v y z : ℤ) → w ≡ v → IsScaled s (pos 2 *ℤ w) y → IsScaled s (pos 2 *ℤ v) z → y ≡ z
  same_scaled w v y z e h k = one_scaled s _ y z h (subst (λ u. IsScaled s (pos 2 *ℤ u) z) (sym e) k)

  straight_scaled : (p o q r : Point) → IsScaledPoint s p q → IsScaledPoint s o r → IsStraight (p, o)
      → IsStraight (q, r)
  straight_scaled p o q r h k (inl e) = inl (same_scaled p.x o.x q.x r.x e h.0 k.0)
  straight_scaled p o q r h k (inr e) = inr (same_scaled p.y o.y q.y r.y e h.1 k.1)

  straight_from : (end p to q : Point) (path points : List Point) → IsScaledPoint s end to → IsScaledPoint s p q
      → AllZip (IsScaledPoint s) path points → All IsStraight (sides_from end p path)
      → All IsStraight (sides_from to q points)
  straight_from end p to q [] [] last here rest h =
      All-cons IsStraight (q, to) [] (straight_scaled p end q to here last (All-head IsStraight (p, end) [] h))
      (All-nil IsStraight)
  straight_from end p to q (o ∷ path) (r ∷ points) last here rest h =
      All-cons IsStraight (q, r) (sides_from to r points)
      (straight_scaled p o q r here rest.0 (All-head IsStraight (p, o) (sides_from end o path) h))
      (straight_from end o to r path points last rest.0 rest.1
      (All-tail IsStraight (p, o) (sides_from end o path) h))
  straight_from end p to q [] (r ∷ points) last here rest h = absurd rest
  straight_from end p to q (o ∷ path) [] last here rest h = absurd rest

  straight_sides : (path points : List Point) → AllZip (IsScaledPoint s) path points → All IsStraight (sides path)
      → All IsStraight (sides points)
  straight_sides [] [] rest h = h
  straight_sides (p ∷ path) (q ∷ points) rest h = straight_from p p q q path points rest.0 rest.0 rest.1 h
  straight_sides [] (q ∷ points) rest h = absurd rest
  straight_sides (p ∷ path) [] rest h = absurd rest

  scaled_points : (path : List Point) → ((p : Point) → Contains path p → IsWholePoint s p)
      → (points : List Point) × AllZip (IsScaledPoint s) path points
  scaled_points [] whole = ([], tt)
  scaled_points (p ∷ path) whole =
      let ((x, across), (y, up)) = whole p (0, omega arith, refl) in
      let (points, rest) = scaled_points path (λ o (j, lt, is). whole o (suc j, omega (arith, lt), is)) in
      (record { x = x; y = y } ∷ points, ((across, up), rest))

-- ---- rectangles

-- the rectangle on another layer
abbrev onto : Layer → Rect → Rect
onto l r = record r { layer = l }

-- what metal covers, the same on another layer covers there
covered_onto : (l : Layer) (x y : ℤ) (rs : List Rect) → All IsSolidMetal rs
    → covered (map (onto l) rs) l x y ↔ covered rs NM x y
covered_onto l x y [] metal = ((λ h. h), (λ h. h))
covered_onto l x y (r ∷ rs) metal =
    let again = covered_onto l x y rs (All-tail IsSolidMetal r rs metal) in
    let here = All-head IsSolidMetal r rs metal in (
      (λ h. elim h [
        | inl c ↦ inl (record { same = here.layer; left = c.left; right = c.right; bottom = c.bottom; top = c.top })
        | inr c ↦ inr (again.0 c)
      ]),
      (λ h. elim h [
        | inl c ↦ inl (record { same = refl; left = c.left; right = c.right; bottom = c.bottom; top = c.top })
        | inr c ↦ inr (again.1 c)
      ]),
    )

-- a polygon of whole points and straight edges has rectangles on each layer
pub polygon_edges : PolygonsAreSplit → (s : Scale) (path : List Point) → ((p : Point) → Contains path p → IsWholePoint s p)
    → ((side : Point × Point) → Contains (sides path) side → ¬ IsAskew side) → (l : Layer)
    → (rs : List Rect) × HasEdges s l (Polygon path) rs
polygon_edges split s path whole straight l =
    let (points, scaled) = scaled_points s path whole in
    let along = All-weaker (Contains (sides path)) IsStraight
    (λ side among. straight_or_askew side (straight side among)) (sides path) (All-contains_itself (sides path)) in
    let (rs, cut) = split points (straight_sides s path points scaled along) in (
      map (onto l) rs,
      (
        points,
        scaled,
        record {
          layer = on_it rs;
          inside = λ x y. let c = covered_onto l x y rs cut.solid in
              ((λ h. (cut.covers x y).0 (c.0 h)), (λ h. c.1 ((cut.covers x y).1 h)));
        },
      ),
    )
  where
    on_it : (rs : List Rect) → All (λ (r : Rect). r.layer ≡ l) (map (onto l) rs)
    on_it [] = All-nil (λ (r : Rect). r.layer ≡ l)
    on_it (r ∷ rs) = All-cons (λ (r : Rect). r.layer ≡ l) (onto l r) (map (onto l) rs) refl (on_it rs)
