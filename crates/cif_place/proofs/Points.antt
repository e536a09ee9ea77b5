-- Where points and polygons are placed.
use Rattle.std.proofs.Common.{◌≡◌, ◌↔◌, inl, inr, refl, sym, ◌∙◌, ap, subst, arith, Bool, true, false, List, [], ◌∷◌}
use Rattle.std.proofs.Common.{◌++◌, ◌+◌, ◌<◌, ◌^◌, ℕ, length, take, get_or, map, All, append_assoc, to_z, of_z, w64}
use Rattle.std.specs.Prelude.{ℤ, pos, Contains, ◌*ℤ◌, ◌-ℤ◌}
use Rattle.std.proofs.lemmas.List.{take_more, map-append}
use Rattle.std.specs.List.{AllZip}
use Rattle.std.proofs.lemmas.Int.{ints}
use Rattle.std.proofs.lemmas.List.Elements.{All-head, All-tail, All-cons, All-nil, Contains-append_cases, AllZip-push}
use Rattle.mp_base.proofs.Contents.{is_only_one, nothing_in}
use Rattle.lam_geom.specs.Moves.{IsNearRect}
use Rattle.lam_geom.specs.declared.layer.Layer.{Layer}
use Rattle.lam_geom.specs.declared.layer.Layer.TheVariants.{NM, ND}
use Rattle.lam_geom.specs.declared.place.Point.{Point}
use Rattle.lam_geom.specs.declared.rect.Rect.{Rect}
use Rattle.lam_geom.specs.Squares.{Covers, covered}
use Rattle.lam_geom.specs.Inside.{sides_from, sides}
use Rattle.poly_split.specs.Splitting.{IsStraight}
use Rattle.poly_split.specs.Polygons.{IsSplit, IsSolidMetal}
use Rattle.poly_split.specs.Moving.{Laying, laid_rect, laid_point, Fills, FillingsAreLiftedBack}
use Rattle.cif_form.specs.Place.{Scale, IsScaled, IsScaledPoint, dot, cell}
use Rattle.cif_form.proofs.OnePlace.{one_scaled}
use Rattle.cif_place.specs.declared.placement.Placement.{Placement}
use Rattle.cif_place.specs.declared.edges.Edges.{Edges}
use Rattle.cif_place.specs.Placing.{IsWithin, rect_of, place_of}
use Rattle.cif_place.specs.Pointing.{laying_of, backed_if, IsCornerAt, IsFarDotAt, IsPlacedPoint, on_layer}

-- ---- a placement lays down rectangles and points

laid_so : (s b c : Bool) (dx dy : ℤ) (r : Rect)
    → (let p : Placement = record { swaps = s; flips_x = b; flips_y = c; dx = dx; dy = dy } in
    place_of p r ≡ laid_rect (laying_of p) r)
laid_so true true true dx dy r = refl
laid_so true true false dx dy r = refl
laid_so true false true dx dy r = refl
laid_so true false false dx dy r = refl
laid_so false true true dx dy r = refl
laid_so false true false dx dy r = refl
laid_so false false true dx dy r = refl
laid_so false false false dx dy r = refl

pub place_lays : (p : Placement) (r : Rect) → place_of p r ≡ laid_rect (laying_of p) r
place_lays p r = laid_so p.swaps p.flips_x p.flips_y p.dx p.dy r

pub all_lay : (p : Placement) (rs : List Rect) → map (laid_rect (laying_of p)) rs ≡ map (place_of p) rs
all_lay p [] = refl
all_lay p (r ∷ rs) = λ i. sym (place_lays p r) i ∷ all_lay p rs i

abbrev IsLaidDot : Placement → Point → Type 0
IsLaidDot p q = ((place_of p (dot q.x q.y)).x0 ≡ (laid_point (laying_of p) q).x)
    × ((place_of p (dot q.x q.y)).y0 ≡ (laid_point (laying_of p) q).y)

dot_laid : (s b c : Bool) (dx dy : ℤ) (q : Point)
    → (let p : Placement = record { swaps = s; flips_x = b; flips_y = c; dx = dx; dy = dy } in IsLaidDot p q)
dot_laid true true true dx dy q = (refl, refl)
dot_laid true true false dx dy q = (refl, refl)
dot_laid true false true dx dy q = (refl, refl)
dot_laid true false false dx dy q = (refl, refl)
dot_laid false true true dx dy q = (refl, refl)
dot_laid false true false dx dy q = (refl, refl)
dot_laid false false true dx dy q = (refl, refl)
dot_laid false false false dx dy q = (refl, refl)

-- a placed dot has the numbers of the point that is laid down
pub dot_lays : (p : Placement) (q : Point) → IsLaidDot p q
dot_lays p q = dot_laid p.swaps p.flips_x p.flips_y p.dx p.dy q

-- the corners of the placed square to the upper right
abbrev IsBacked : Placement → ℤ → ℤ → Type 0
IsBacked p h v = ((place_of p (cell h v)).x0 ≡ backed_if p.flips_x (place_of p (dot h v)).x0)
    × ((place_of p (cell h v)).y0 ≡ backed_if p.flips_y (place_of p (dot h v)).y0)

cell_backed : (s b c : Bool) (dx dy h v : ℤ)
    → (let p : Placement = record { swaps = s; flips_x = b; flips_y = c; dx = dx; dy = dy } in IsBacked p h v)
cell_backed true true true dx dy h v = (omega (arith, ints), omega (arith, ints))
cell_backed true true false dx dy h v = (omega (arith, ints), omega (arith, ints))
cell_backed true false true dx dy h v = (omega (arith, ints), omega (arith, ints))
cell_backed true false false dx dy h v = (omega (arith, ints), omega (arith, ints))
cell_backed false true true dx dy h v = (omega (arith, ints), omega (arith, ints))
cell_backed false true false dx dy h v = (omega (arith, ints), omega (arith, ints))
cell_backed false false true dx dy h v = (omega (arith, ints), omega (arith, ints))
cell_backed false false false dx dy h v = (omega (arith, ints), omega (arith, ints))

pub cell_backs : (p : Placement) (h v : ℤ) → IsBacked p h v
cell_backs p h v = cell_backed p.swaps p.flips_x p.flips_y p.dx p.dy h v

-- ---- placed dots

pub near_ends : (e : Edges) (r : Rect) → r ≡ rect_of ND e → IsNearRect (rect_of ND e)
    → IsWithin (2 ^ 40) r.x0 × IsWithin (2 ^ 40) r.y0
near_ends e r is near =
    let x = near.x0 in
    let y = near.y0 in (
      subst (λ (q : Rect). IsWithin (2 ^ 40) q.x0) (sym is) (omega (arith, ints, x.0), omega (arith, ints, x.1)),
      subst (λ (q : Rect). IsWithin (2 ^ 40) q.y0) (sym is) (omega (arith, ints, y.0), omega (arith, ints, y.1)),
    )

pub near_kept : (z : ℤ) → IsWithin (2 ^ 40) z → to_z w64 (of_z w64 z) ≡ z
near_kept z h = omega (arith, ints, h.0, h.1)

pub within_kept : (z : ℤ) → IsWithin (2 ^ 40) z → IsWithin (2 ^ 40) (to_z w64 (of_z w64 z))
within_kept z h = subst (IsWithin (2 ^ 40)) (sym (near_kept z h)) h

less_kept_by : (z : ℤ) → IsWithin (2 ^ 40) z → to_z w64 (of_z w64 (z -ℤ pos 1)) ≡ z -ℤ pos 1
less_kept_by z h = omega (arith, ints, h.0, h.1)

pub backed_kept : (b : Bool) (z x : ℤ) → IsWithin (2 ^ 40) z → x ≡ backed_if b (to_z w64 (of_z w64 z))
    → to_z w64 (of_z w64 x) ≡ backed_if b z
backed_kept true z x h e =
    ap (λ y. to_z w64 (of_z w64 y)) (e ∙ ap (λ y. y -ℤ pos 1) (near_kept z h)) ∙ less_kept_by z h
backed_kept false z x h e = ap (λ y. to_z w64 (of_z w64 y)) (e ∙ near_kept z h) ∙ near_kept z h

module _ (s : Scale) (p : Placement) (x y a b : ℤ) (e : Edges) (across : IsScaled s x a) (up : IsScaled s y b)
    (placed : rect_of ND e ≡ place_of p (dot a b)) where
  pub far_dot : ¬ IsNearRect (rect_of ND e) → IsFarDotAt s p x y
  far_dot far h v sh sv near =
      let ex = one_scaled s x h a sh across in
      let ey = one_scaled s y v b sv up in
      far (subst IsNearRect (sym placed)
      (subst (λ z. IsNearRect (place_of p (dot a z))) ey (subst (λ z. IsNearRect (place_of p (dot z v))) ex near)))

  module _ (near : IsNearRect (rect_of ND e)) (r : Rect) (is : r ≡ rect_of ND e) where
    pub corner_of : (c d : ℤ) → c ≡ backed_if p.flips_x (to_z w64 (of_z w64 r.x0))
        → d ≡ backed_if p.flips_y (to_z w64 (of_z w64 r.y0))
        → IsCornerAt s p x y (record { x = to_z w64 (of_z w64 c); y = to_z w64 (of_z w64 d) })
    corner_of c d ec ed =
        let ends = near_ends e r is near in (
          a,
          b,
          across,
          up,
          subst IsNearRect placed near,
          backed_kept p.flips_x r.x0 c ends.0 ec ∙ ap (λ (q : Rect). backed_if p.flips_x q.x0) (is ∙ placed)
              ∙ sym (cell_backs p a b).0,
          backed_kept p.flips_y r.y0 d ends.1 ed ∙ ap (λ (q : Rect). backed_if p.flips_y q.y0) (is ∙ placed)
              ∙ sym (cell_backs p a b).1,
        )

    pub point_of : (o : Point) → x ≡ pos 2 *ℤ o.x → y ≡ pos 2 *ℤ o.y
        → IsPlacedPoint s p o (record { x = to_z w64 (of_z w64 r.x0); y = to_z w64 (of_z w64 r.y0) })
    point_of o ex ey =
        let ends = near_ends e r is near in
        let q : Point = record { x = a; y = b } in
        let laid = dot_lays p q in
        let px = near_kept r.x0 ends.0 ∙ ap (λ (z : Rect). z.x0) (is ∙ placed) ∙ laid.0 in
        let py = near_kept r.y0 ends.1 ∙ ap (λ (z : Rect). z.y0) (is ∙ placed) ∙ laid.1 in (
          q,
          (subst (λ z. IsScaled s z a) ex across, subst (λ z. IsScaled s z b) ey up),
          subst IsNearRect placed near,
          λ i. record { x = px i; y = py i },
        )

-- one more point of a path
pub placed_more : (s : Scale) (w : Placement) (path : List Point) (k : ℕ) (d : Point) (points new : List Point)
    (o : Point)
    → k < length path → AllZip (IsPlacedPoint s w) (take k path) points → IsPlacedPoint s w (get_or path k d) o
    → new ≡ points ++ (o ∷ []) → AllZip (IsPlacedPoint s w) (take (k + 1) path) new
placed_more s w path k d points new o lt z h e =
    subst (λ xs. AllZip (IsPlacedPoint s w) xs new) (sym (take_more path k d lt))
    (subst (λ os. AllZip (IsPlacedPoint s w) (take k path ++ (get_or path k d ∷ [])) os) (sym e)
    (AllZip-push (IsPlacedPoint s w) (take k path) points (get_or path k d) o z h))

-- one more piece
pub layered_more : (l : Layer) (pieces : List Rect) (k : ℕ) (d : Rect) (initial shapes new : List Rect)
    → k < length pieces → shapes ≡ initial ++ map (on_layer l) (take k pieces)
    → new ≡ shapes ++ (on_layer l (get_or pieces k d) ∷ []) → new ≡ initial ++ map (on_layer l) (take (k + 1) pieces)
layered_more l pieces k d initial shapes new lt is e =
    let f = on_layer l in
    let r = get_or pieces k d in
    e ∙ ap (λ z. z ++ (f r ∷ [])) is ∙ append_assoc initial (map f (take k pieces)) (f r ∷ [])
    ∙ ap (λ z. initial ++ z) (sym (map-append f (take k pieces) (r ∷ [])) ∙ ap (map f) (sym (take_more pieces k d lt)))

-- ---- straight sides stay straight

-- points of which this relation is kept by the pairs along a path
module _ (Carried : Point → Point → Type 0)
    (keeps : (p q o e : Point) → Carried p o → Carried q e → IsStraight (p, q) → IsStraight (o, e)) where
  sides_carried : (end last p o : Point) (ps os : List Point) → Carried end last → Carried p o → AllZip Carried ps os
      → All IsStraight (sides_from end p ps) → All IsStraight (sides_from last o os)
  sides_carried end last p o [] [] c d z h =
      All-cons IsStraight (o, last) [] (keeps p end o last d c (All-head IsStraight (p, end) [] h)) (All-nil IsStraight)
  sides_carried end last p o (q ∷ ps) (e ∷ os) c d z h =
      All-cons IsStraight (o, e) (sides_from last e os)
      (keeps p q o e d z.0 (All-head IsStraight (p, q) (sides_from end q ps) h))
      (sides_carried end last q e ps os c z.0 z.1 (All-tail IsStraight (p, q) (sides_from end q ps) h))
  sides_carried end last p o [] (e ∷ os) c d z h = absurd z
  sides_carried end last p o (q ∷ ps) [] c d z h = absurd z

  straight_carried : (ps os : List Point) → AllZip Carried ps os → All IsStraight (sides ps) → All IsStraight (sides os)
  straight_carried [] [] z h = All-nil IsStraight
  straight_carried (p ∷ ps) (o ∷ os) z h = sides_carried p o p o ps os z.0 z.0 z.1 h
  straight_carried [] (o ∷ os) z h = absurd z
  straight_carried (p ∷ ps) [] z h = absurd z

scaled_straight : (s : Scale) (p q o e : Point) → IsScaledPoint s p o → IsScaledPoint s q e → IsStraight (p, q)
    → IsStraight (o, e)
scaled_straight s p q o e h k (inl same) =
    inl (one_scaled s _ o.x e.x h.0 (subst (λ z. IsScaled s (pos 2 *ℤ z) e.x) (sym same) k.0))
scaled_straight s p q o e h k (inr same) =
    inr (one_scaled s _ o.y e.y h.1 (subst (λ z. IsScaled s (pos 2 *ℤ z) e.y) (sym same) k.1))

laid_axis : (s b c : Bool) (dx dy : ℤ) (p q : Point) → IsStraight (p, q)
    → (let w : Laying = record { swaps = s; flips_x = b; flips_y = c; dx = dx; dy = dy } in
    IsStraight (laid_point w p, laid_point w q))
laid_axis true true true dx dy p q (inl e) = inr (omega (arith, ints, e))
laid_axis true true false dx dy p q (inl e) = inr (omega (arith, ints, e))
laid_axis true false true dx dy p q (inl e) = inr (omega (arith, ints, e))
laid_axis true false false dx dy p q (inl e) = inr (omega (arith, ints, e))
laid_axis false true true dx dy p q (inl e) = inl (omega (arith, ints, e))
laid_axis false true false dx dy p q (inl e) = inl (omega (arith, ints, e))
laid_axis false false true dx dy p q (inl e) = inl (omega (arith, ints, e))
laid_axis false false false dx dy p q (inl e) = inl (omega (arith, ints, e))
laid_axis true true true dx dy p q (inr e) = inl (omega (arith, ints, e))
laid_axis true true false dx dy p q (inr e) = inl (omega (arith, ints, e))
laid_axis true false true dx dy p q (inr e) = inl (omega (arith, ints, e))
laid_axis true false false dx dy p q (inr e) = inl (omega (arith, ints, e))
laid_axis false true true dx dy p q (inr e) = inr (omega (arith, ints, e))
laid_axis false true false dx dy p q (inr e) = inr (omega (arith, ints, e))
laid_axis false false true dx dy p q (inr e) = inr (omega (arith, ints, e))
laid_axis false false false dx dy p q (inr e) = inr (omega (arith, ints, e))

laid_straight : (w : Laying) (p q : Point) → IsStraight (p, q) → IsStraight (laid_point w p, laid_point w q)
laid_straight w p q h = laid_axis w.swaps w.flips_x w.flips_y w.dx w.dy p q h

-- ---- placed points

module _ (s : Scale) (w : Placement) where
  abbrev lay : Point → Point
  lay = laid_point (laying_of w)

  -- the scaled points that placed points come from
  pub scaled_of : (path points : List Point) → AllZip (IsPlacedPoint s w) path points
      → (qs : List Point) × AllZip (IsScaledPoint s) path qs × (points ≡ map lay qs)
  scaled_of [] [] z = ([], tt, refl)
  scaled_of (p ∷ path) (o ∷ points) ((q, h, near, is), z) =
      let rest = scaled_of path points z in (q ∷ rest.0, (h, rest.1), λ i. is i ∷ rest.2 i)
  scaled_of [] (o ∷ points) z = absurd z
  scaled_of (p ∷ path) [] z = absurd z

  placed_keeps : (p q o e : Point) → IsPlacedPoint s w p o → IsPlacedPoint s w q e → IsStraight (p, q)
      → IsStraight (o, e)
  placed_keeps p q o e (a, ha, na, ia) (b, hb, nb, ib) h =
      let laid = laid_straight (laying_of w) a b (scaled_straight s p q a b ha hb h) in
      subst (λ z. IsStraight (z, e)) (sym ia) (subst (λ z. IsStraight (lay a, z)) (sym ib) laid)

  pub placed_straight : (path points : List Point) → AllZip (IsPlacedPoint s w) path points
      → All IsStraight (sides path) → All IsStraight (sides points)
  placed_straight = straight_carried (IsPlacedPoint s w) placed_keeps

  -- what fills a placed polygon is placed of what fills the scaled one
  pub placed_of : FillingsAreLiftedBack → (l : Layer) (path points : List Point) (rs : List Rect)
      → AllZip (IsPlacedPoint s w) path points → All IsStraight (sides path) → Fills l points rs
      → (qs : List Point) × (zs : List Rect) × AllZip (IsScaledPoint s) path qs × Fills l qs zs × (rs ≡ map
      (place_of w) zs)
  placed_of lifted l path points rs z straight f =
      let from = scaled_of path points z in
      let even = straight_carried (IsScaledPoint s) (scaled_straight s) path from.0 from.1 straight in
      let back = lifted (laying_of w) l from.0 rs even (subst (λ z. Fills l z rs) from.2 f) in
      (from.0, back.0, from.1, back.1, sym back.2 ∙ all_lay w back.0)

-- a point of the path is near where it is scaled and placed
pub placed_near : (s : Scale) (w : Placement) (path points : List Point) (p q : Point)
    → AllZip (IsPlacedPoint s w) path points → Contains path p → IsScaledPoint s p q
    → IsNearRect (place_of w (dot q.x q.y))
placed_near s w [] points p q z c h = absurd (nothing_in p c)
placed_near s w (o ∷ path) [] p q z c h = absurd z
placed_near s w (o ∷ path) (e ∷ points) p q ((a, g, near, is), z) c h = elim (Contains-append_cases (o ∷ []) path p c) [
  | inl d ↦
      (let k = subst (λ b. IsScaledPoint s b q) (is_only_one o p d) h in
      let x = one_scaled s _ a.x q.x g.0 k.0 in
      let y = one_scaled s _ a.y q.y g.1 k.1 in
      subst (λ b. IsNearRect (place_of w (dot b q.y))) x (subst (λ b. IsNearRect (place_of w (dot a.x b))) y near))
  | inr d ↦ placed_near s w path points p q z d h
]

-- ---- pieces

one_layered : (l : Layer) (r : Rect) (x y : ℤ) → r.layer ≡ NM → Covers (on_layer l r) l x y ↔ Covers r NM x y
one_layered l r x y e = (
  (λ c. record { same = e; left = c.left; right = c.right; bottom = c.bottom; top = c.top }),
  (λ c. record { same = refl; left = c.left; right = c.right; bottom = c.bottom; top = c.top }),
)

all_layered : (l : Layer) (rs : List Rect) (x y : ℤ) → All IsSolidMetal rs
    → covered (map (on_layer l) rs) l x y ↔ covered rs NM x y
all_layered l [] x y h = ((λ c. c), (λ c. c))
all_layered l (r ∷ rs) x y h =
    let one = one_layered l r x y (All-head IsSolidMetal r rs h).layer in
    let again = all_layered l rs x y (All-tail IsSolidMetal r rs h) in (
      (λ c. elim c [ inl a ↦ inl (one.0 a) | inr a ↦ inr (again.0 a) ]),
      (λ c. elim c [ inl a ↦ inl (one.1 a) | inr a ↦ inr (again.1 a) ]),
    )

layers_of : (l : Layer) (rs : List Rect) → All (λ r. r.layer ≡ l) (map (on_layer l) rs)
layers_of l [] = All-nil (λ r. r.layer ≡ l)
layers_of l (r ∷ rs) = All-cons (λ r. r.layer ≡ l) (on_layer l r) (map (on_layer l) rs) refl (layers_of l rs)

-- the pieces of a polygon fill it on any layer
pub pieces_fill : (l : Layer) (points : List Point) (rs : List Rect) → IsSplit points rs
    → Fills l points (map (on_layer l) rs)
pieces_fill l points rs split = record {
  layer = layers_of l rs;
  inside = λ x y.
      let a = all_layered l rs x y split.solid in
      let b = split.covers x y in ((λ c. b.0 (a.0 c)), (λ c. a.1 (b.1 c)));
}
