-- Laws of boxes and wires.
use Rattle.std.proofs.Common.{ℕ, zero, suc, ◌≡◌, ◌-◌, ◌<◌, ◌⊎◌, inl, inr, refl, sym, ◌∙◌, ap, subst, arith, List, []}
use Rattle.std.proofs.Common.{◌∷◌, ◌++◌, length, get_or, map, append_assoc, append-nil, Bool, true, false}
use Rattle.std.specs.Prelude.{◌≢◌, ℤ, pos, ◌≤ℤ◌, All, Result, Ok, Err, IfOk, IfErr, Option, Some, None, IfSome, IfNone}
use Rattle.std.proofs.lemmas.Int.{ints, by_lt_z}
use Rattle.std.proofs.lemmas.List.{map-append}
use Rattle.std.proofs.lemmas.List.Elements.{All-nil, All-cons, All-head, All-tail, All-push, Contains-push}
use Rattle.std.proofs.lemmas.List.Elements.{Contains-append_left}
use Rattle.lam_geom.specs.Moves.{IsNearRect}
use Rattle.lam_geom.specs.declared.layer.Layer.{Layer}
use Rattle.lam_geom.specs.declared.place.Point.{Point}
use Rattle.lam_geom.specs.declared.rect.Rect.{Rect}
use Rattle.cif_form.specs.Place.{Scale, IsAround, IsSegment, AreSegments, segments}
use Rattle.cif_place.specs.declared.edges.Edges.{Edges}
use Rattle.cif_place.specs.declared.edges.Extent.{Extent}
use Rattle.cif_place.specs.declared.shape.BoxFault.{BoxFault}
use Rattle.cif_place.specs.declared.placement.Placement.{Placement}
use Rattle.cif_place.specs.declared.ratio.Ratio.{Ratio}
use Rattle.cif_place.specs.Placing.{IsShortPoint, rect_of, turned, place_of}
use Rattle.cif_place.specs.Shaping.{IsAroundCenter, IsUneven, IsBoxEdges, IsBoxFault, IsStraight, IsNearAt}
use Rattle.cif_place.specs.Shaping.{IsDrawnIfNear, HaveEdges, drawn, IsWiredSoFar}

-- ---- boxes

module _ (ratio : Ratio) (center direction : Point) where
  pub box_along : (extent : Extent) (r : Result Edges BoxFault) → direction.y ≡ pos 0 → direction.x ≢ pos 0
      → IfOk r (IsAroundCenter ratio extent center) → IfErr r (IsUneven ratio extent center)
      → IfOk r (IsBoxEdges ratio extent center direction) × IfErr r (IsBoxFault ratio extent center direction)
  box_along extent (Ok e) y x h k = ((inl (y, x), (λ l. inl (y, x, h.0 l)), h.1), tt)
  box_along extent (Err f) y x h k = (
    tt,
    subst (IsBoxFault ratio extent center direction) (sym k.0)
        (inl (y, x), λ l r b. elim b [ inl a ↦ k.1 l r a.2 | inr a ↦ x a.0 ]),
  )

  pub box_across : (extent : Extent) (r : Result Edges BoxFault) → direction.x ≡ pos 0 → direction.y ≢ pos 0
      → IfOk r (IsAroundCenter ratio (turned extent) center) → IfErr r (IsUneven ratio (turned extent) center)
      → IfOk r (IsBoxEdges ratio extent center direction) × IfErr r (IsBoxFault ratio extent center direction)
  box_across extent (Ok e) x y h k = ((inr (x, y), (λ l. inr (x, y, h.0 l)), h.1), tt)
  box_across extent (Err f) x y h k = (
    tt,
    subst (IsBoxFault ratio extent center direction) (sym k.0)
        (inr (x, y), λ l r b. elim b [ inl a ↦ y a.0 | inr a ↦ k.1 l r a.2 ]),
  )

-- ---- segments

pub segments_one : (ps : List Point) → length ps ≡ 1 → length (segments ps) ≡ 1
segments_one [] h = absurd (omega arith)
segments_one (p ∷ []) h = refl
segments_one (p ∷ q ∷ ps) h = absurd (omega arith)

pub segments_more : (ps : List Point) → 1 < length ps → length (segments ps) ≡ length ps - 1
segments_more [] h = absurd (omega arith)
segments_more (p ∷ []) h = absurd (omega arith)
segments_more (p ∷ q ∷ []) h = refl
segments_more (p ∷ q ∷ o ∷ ps) h = let e = segments_more (q ∷ o ∷ ps) (omega arith) in omega (arith, e)

pub the_segment : (ps : List Point) (k : ℕ) (d : Point × Point) (a b : Point) → length ps ≡ 1
    → k < length (segments ps) → get_or (segments ps) k d ≡ (get_or ps 0 a, get_or ps 0 b)
the_segment [] k d a b e h = absurd (omega arith)
the_segment (p ∷ []) zero d a b e h = refl
the_segment (p ∷ []) (suc k) d a b e h = absurd (omega arith)
the_segment (p ∷ q ∷ ps) k d a b e h = absurd (omega arith)

pub a_segment : (ps : List Point) (k : ℕ) (d : Point × Point) (a b : Point) → suc k < length ps
    → get_or (segments ps) k d ≡ (get_or ps k a, get_or ps (suc k) b)
a_segment [] k d a b h = absurd (omega arith)
a_segment (p ∷ []) k d a b h = absurd (omega arith)
a_segment (p ∷ q ∷ []) zero d a b h = refl
a_segment (p ∷ q ∷ []) (suc k) d a b h = absurd (omega arith)
a_segment (p ∷ q ∷ o ∷ ps) zero d a b h = refl
a_segment (p ∷ q ∷ o ∷ ps) (suc k) d a b h = a_segment (q ∷ o ∷ ps) k d a b (omega arith)

-- where two points of a line along an axis are in order, the lower is the lower end
one_low : (p q l h : Point) → (l ≡ p) × (h ≡ q) ⊎ (l ≡ q) × (h ≡ p) → l.x ≤ℤ h.x → l.y ≤ℤ h.y → p.x ≤ℤ q.x → p.y ≤ℤ q.y
    → (l ≡ p) × (h ≡ q)
one_low p q l h (inl e) a b c d = e
one_low p q l h (inr (e, f)) a b c d =
    let ex = ap (λ o. o.x) e in
    let ey = ap (λ o. o.y) e in
    let fx = ap (λ o. o.x) f in
    let fy = ap (λ o. o.y) f in
    let x : p.x ≡ q.x = omega (arith, ints) in
    let y : p.y ≡ q.y = omega (arith, ints) in
    let same : p ≡ q = λ i. record { x = x i; y = y i } in
    (e ∙ sym same, f ∙ same)

abbrev pub IsRise : Point → Point → Type 0
IsRise p q = (p.x ≤ℤ q.x) × (p.y ≤ℤ q.y)

module _ (s : Scale) (l : Layer) (wide : ℤ) (p q : Point) where
  pub segment_up : (r : Rect) → IsStraight (p, q) → IsRise p q → IsAround s l p q wide wide r → IsSegment s l wide p q r
  segment_up r a h k =
      record { on_axis = a; low = p; high = q; ends = inl (refl, refl); across = h.0; upward = h.1; around = k }

  pub segment_down : (r : Rect) → IsStraight (p, q) → IsRise q p → IsAround s l q p wide wide r
      → IsSegment s l wide p q r
  segment_down r a h k =
      record { on_axis = a; low = q; high = p; ends = inr (refl, refl); across = h.0; upward = h.1; around = k }

  pub around_up : (r : Rect) → IsRise p q → IsSegment s l wide p q r → IsAround s l p q wide wide r
  around_up r h k =
      let e = one_low p q k.low k.high k.ends k.across k.upward h.0 h.1 in
      subst (λ o. IsAround s l o q wide wide r) e.0 (subst (λ o. IsAround s l k.low o wide wide r) e.1 k.around)

  pub around_down : (r : Rect) → IsRise q p → IsSegment s l wide p q r → IsAround s l q p wide wide r
  around_down r h k =
      let e = one_low q p k.low k.high (elim k.ends [ inl a ↦ inr a | inr a ↦ inl a ]) k.across k.upward h.0 h.1 in
      subst (λ o. IsAround s l o p wide wide r) e.0 (subst (λ o. IsAround s l k.low o wide wide r) e.1 k.around)

pub rises : (p q : Point) → IsStraight (p, q) → ¬ IsRise p q → IsRise q p
rises p q a n =
    by_lt_z q.x p.x (λ h. (omega (arith, ints, h), straight_y (omega (arith, ints, h)))) (λ h. (straight_x h, down h))
  where
    straight_y : (q.x ≡ p.x → ⊥) → q.y ≤ℤ p.y
    straight_y n = elim a [ inl e ↦ absurd (n (sym e)) | inr e ↦ omega (arith, ints, e) ]

    down : p.x ≤ℤ q.x → q.y ≤ℤ p.y
    down h = by_lt_z q.y p.y (λ k. omega (arith, ints, k)) (λ k. absurd (n (h, k)))

    straight_x : p.x ≤ℤ q.x → q.x ≤ℤ p.x
    straight_x h = elim a [ inl e ↦ omega (arith, ints, e) | inr e ↦ absurd (n (h, omega (arith, ints, e))) ]

-- ---- wires, segment by segment

segments_push : (s : Scale) (l : Layer) (wide : ℤ) (ps : List (Point × Point)) (p : Point × Point) (rs : List Rect)
    (r : Rect)
    → AreSegments s l wide ps rs → IsSegment s l wide p.0 p.1 r → AreSegments s l wide (ps ++ p ∷ []) (rs ++ r ∷ [])
segments_push s l wide [] p [] r h k = (k, tt)
segments_push s l wide [] p (q ∷ rs) r h k = absurd h
segments_push s l wide (o ∷ ps) p [] r h k = absurd h
segments_push s l wide (o ∷ ps) p (q ∷ rs) r h k = (h.0, segments_push s l wide ps p rs r h.1 k)

pub segments_at : (s : Scale) (l : Layer) (wide : ℤ) (ps : List (Point × Point)) (rs : List Rect) (k : ℕ)
    (d : Point × Point) → AreSegments s l wide ps rs → k < length ps
    → (r : Rect) × IsSegment s l wide (get_or ps k d).0 (get_or ps k d).1 r
segments_at s l wide [] rs k d h m = absurd (omega arith)
segments_at s l wide (p ∷ ps) [] k d h m = absurd h
segments_at s l wide (p ∷ ps) (r ∷ rs) zero d h m = (r, h.0)
segments_at s l wide (p ∷ ps) (r ∷ rs) (suc k) d h m = segments_at s l wide ps rs k d h.1 (omega arith)

edges_push : (s : Scale) (wide : ℤ) (ps : List (Point × Point)) (p : Point × Point) (es : List Edges) (e : Edges)
    → HaveEdges s wide ps es → ((l : Layer) → IsSegment s l wide p.0 p.1 (rect_of l e))
    → HaveEdges s wide (ps ++ p ∷ []) (es ++ e ∷ [])
edges_push s wide ps p es e h k =
    λ l. subst (AreSegments s l wide (ps ++ p ∷ [])) (sym (map-append (rect_of l) es (e ∷ [])))
    (segments_push s l wide ps p (map (rect_of l) es) (rect_of l e) (h l) (k l))

-- one segment more
pub wired_more : (s : Scale) (o : Placement) (layer : Layer) (wide : ℤ) (ps : List (Point × Point)) (p : Point × Point)
    (e f : Edges) (old mid new : List Rect) (near now : Bool)
    → IsWiredSoFar s o layer wide ps old mid near → ((l : Layer) → IsSegment s l wide p.0 p.1 (rect_of l e))
    → ((l : Layer) → rect_of l f ≡ place_of o (rect_of l e))
    → IsDrawnIfNear near layer f mid new now → IsWiredSoFar s o layer wide (ps ++ p ∷ []) old new now
wired_more s o layer wide ps p e f old mid new true true (es, h, near, is) k placed (g, n, m) = (
  es ++ e ∷ [],
  edges_push s wide ps p es e h k,
  All-push (IsNearAt o) es e near (λ l. subst IsNearRect (placed l) (n l)),
  m ∙ (λ i. is i ++ placed layer i ∷ []) ∙ append_assoc old (drawn o layer es) (place_of o (rect_of layer e) ∷ [])
      ∙ ap (λ rs. old ++ rs) (sym (map-append (λ d. place_of o (rect_of layer d)) es (e ∷ []))),
)
wired_more s o layer wide ps p e f old mid new true false (es, h, near, is) k placed (inl g) =
    absurd (let x : true ≡ false = g in cc)
wired_more s o layer wide ps p e f old mid new true false (es, h, near, is) k placed (inr far) = (
  es ++ e
      ∷ [],
  edges_push s wide ps p es e h k,
  (e, Contains-push es e, λ l n. far l (subst IsNearRect (sym (placed l)) n)),
)
wired_more s o layer wide ps p e f old mid new false true h k placed (g, n, m) = absurd (let x : false ≡ true = g in cc)
wired_more s o layer wide ps p e f old mid new false false (es, h, (d, c, far)) k placed g =
    (es ++ e ∷ [], edges_push s wide ps p es e h k, (d, Contains-append_left es (e ∷ []) d c, far))

pub wired_none : (s : Scale) (o : Placement) (layer : Layer) (wide : ℤ) (old : List Rect)
    → IsWiredSoFar s o layer wide [] old old true
wired_none s o layer wide old = ([], (λ l. tt), All-nil (IsNearAt o), sym (append-nil old))

pub drawn_others : (others : Bool) (layer : Layer) (e : Edges) (old new : List Rect)
    → ((l : Layer) → IsNearRect (rect_of l e)) → new ≡ old ++ (rect_of layer e ∷ [])
    → IsDrawnIfNear others layer e old new others
drawn_others true layer e old new n m = (refl, n, m)
drawn_others false layer e old new n m = inl refl

-- ---- what is found of a segment

module _ (s : Scale) (p q : Point) (extent : Extent) (square : extent.up ≡ extent.across) (a : IsStraight (p, q)) where
  pub whole_up : IsRise p q → (o : Option Edges)
      → IfSome o (λ e. (l : Layer) → IsAround s l p q extent.across extent.up (rect_of l e))
      → IfSome o (λ e. (l : Layer) → IsSegment s l extent.across p q (rect_of l e))
  whole_up h None k = tt
  whole_up h (Some e) k =
      λ l. segment_up s l extent.across p q (rect_of l e) a h
      (subst (λ u. IsAround s l p q extent.across u (rect_of l e)) square (k l))

  pub whole_down : IsRise q p → (o : Option Edges)
      → IfSome o (λ e. (l : Layer) → IsAround s l q p extent.across extent.up (rect_of l e))
      → IfSome o (λ e. (l : Layer) → IsSegment s l extent.across p q (rect_of l e))
  whole_down h None k = tt
  whole_down h (Some e) k =
      λ l. segment_down s l extent.across p q (rect_of l e) a h
      (subst (λ u. IsAround s l q p extent.across u (rect_of l e)) square (k l))

  pub uneven_up : IsRise p q → (o : Option Edges)
      → IfNone o ((l : Layer) (r : Rect) → ¬ IsAround s l p q extent.across extent.up r)
      → IfNone o ((l : Layer) (r : Rect) → ¬ IsSegment s l extent.across p q r)
  uneven_up h (Some e) k = tt
  uneven_up h None k =
      λ l r g. k l r
      (subst (λ u. IsAround s l p q extent.across u r) (sym square) (around_up s l extent.across p q r h g))

  pub uneven_down : IsRise q p → (o : Option Edges)
      → IfNone o ((l : Layer) (r : Rect) → ¬ IsAround s l q p extent.across extent.up r)
      → IfNone o ((l : Layer) (r : Rect) → ¬ IsSegment s l extent.across p q r)
  uneven_down h (Some e) k = tt
  uneven_down h None k =
      λ l r g. k l r
      (subst (λ u. IsAround s l q p extent.across u r) (sym square) (around_down s l extent.across p q r h g))

-- both points are short
abbrev pub AreShort : Point × Point → Type 0
AreShort p = IsShortPoint p.0 × IsShortPoint p.1

pub short_segments : (ps : List Point) → All IsShortPoint ps → All AreShort (segments ps)
short_segments [] h = All-nil AreShort
short_segments (p ∷ []) h =
    All-cons AreShort (p, p) [] (All-head IsShortPoint p [] h, All-head IsShortPoint p [] h) (All-nil AreShort)
short_segments (p ∷ q ∷ []) h =
    All-cons AreShort (p, q) []
    (All-head IsShortPoint p (q ∷ []) h, All-head IsShortPoint q [] (All-tail IsShortPoint p (q ∷ []) h))
    (All-nil AreShort)
short_segments (p ∷ q ∷ o ∷ ps) h =
    let t = All-tail IsShortPoint p (q ∷ o ∷ ps) h in
    All-cons AreShort (p, q) (segments (q ∷ o ∷ ps))
    (All-head IsShortPoint p (q ∷ o ∷ ps) h, All-head IsShortPoint q (o ∷ ps) t) (short_segments (q ∷ o ∷ ps) t)

-- what is true of each segment is true of one that stands there
pub at_segment : (P : Point × Point → Type 0) (segs : List (Point × Point)) (k : ℕ) (p : Point × Point)
    → k < length segs → p ≡ get_or segs k p → All P segs → P p
at_segment P segs k p h e a = subst P (sym e) (a k p h)

pub no_segment : (s : Scale) (l : Layer) (wide : ℤ) (segs : List (Point × Point)) (rs : List Rect) (k : ℕ)
    (p : Point × Point) → k < length segs → p ≡ get_or segs k p
    → ((r : Rect) → ¬ IsSegment s l wide p.0 p.1 r) → ¬ AreSegments s l wide segs rs
no_segment s l wide segs rs k p h e n a =
    let b = segments_at s l wide segs rs k p a h in n b.0 (subst (λ q. IsSegment s l wide q.0 q.1 b.0) (sym e) b.1)

-- ---- edges are determined
