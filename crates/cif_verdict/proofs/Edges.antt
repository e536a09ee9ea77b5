-- Whether a command has rectangles at a scale, and whether they are near.
use Rattle.std.proofs.Common.{◌≡◌, ◌⊎◌, inl, inr, List, [], ◌∷◌, refl, subst}
use Rattle.std.specs.Prelude.{◌≢◌, ℤ, pos, ◌+ℤ◌, ◌-ℤ◌, ◌*ℤ◌, ◌≤ℤ◌}
use Rattle.mp_base.proofs.Decisions.{Decided, same_claim, both_of, one_of, not_so, is_integer, is_at_most}
use Rattle.lam_geom.specs.declared.layer.Layer.{Layer}
use Rattle.lam_geom.specs.declared.place.Point.{Point}
use Rattle.lam_geom.specs.declared.rect.Rect.{Rect}
use Rattle.lam_geom.specs.Moves.{IsNearRect}
use Rattle.cif_form.specs.declared.command.Command.TheVariants.{Box, Wire}
use Rattle.cif_form.specs.Place.{Scale, IsScaled, IsAround, IsBox, IsSegment, AreSegments, segments, HasEdges}
use Rattle.cif_verdict.proofs.Scaling.{some_scaled, is_near}

-- on each layer there is such a thing, or on none
abbrev pub Found : {X : Type 0} → (Layer → X → Type 0) → Type 0
Found {X} P = ((l : Layer) → (x : X) × P l x) ⊎ ((l : Layer) (x : X) → P l x → ⊥)

-- found where a claim that names no layer is decided
found_by : {A X : Type 0} (P : Layer → X → Type 0) → Decided A → (A → (l : Layer) → (x : X) × P l x)
    → ((l : Layer) (x : X) → P l x → A) → Found P
found_by P (inl a) fore back = inl (fore a)
found_by P (inr none) fore back = inr (λ l x h. none (back l x h))

-- ---- rectangles

abbrev Sides : Scale → Point → Point → ℤ → ℤ → Type 0
Sides s low high across up = ((z : ℤ) × IsScaled s (pos 2 *ℤ low.x -ℤ across) z)
    × (((z : ℤ) × IsScaled s (pos 2 *ℤ high.x +ℤ across) z)
    × (((z : ℤ) × IsScaled s (pos 2 *ℤ low.y -ℤ up) z) × ((z : ℤ) × IsScaled s (pos 2 *ℤ high.y +ℤ up) z)))

some_sides : (s : Scale) (low high : Point) (across up : ℤ) → Decided (Sides s low high across up)
some_sides s low high across up = both_of (some_scaled s _) (both_of (some_scaled s _)
    (both_of (some_scaled s _) (some_scaled s _)))

around : (s : Scale) (low high : Point) (across up : ℤ) → Sides s low high across up → (l : Layer)
    → (r : Rect) × IsAround s l low high across up r
around s low high across up ((x0, left), ((x1, right), ((y0, bottom), (y1, top)))) l = (
  record { layer = l; x0 = x0; y0 = y0; x1 = x1; y1 = y1 },
  record { layer = refl; left = left; right = right; bottom = bottom; top = top },
)

sides : (s : Scale) (low high : Point) (across up : ℤ) (l : Layer) (r : Rect) → IsAround s l low high across up r
    → Sides s low high across up
sides s low high across up l r h = ((r.x0, h.left), ((r.x1, h.right), ((r.y0, h.bottom), (r.y1, h.top))))

-- ---- boxes

abbrev Lies : Scale → ℤ → ℤ → Point → Point → Type 0
Lies s long wide center direction =
    ((direction.y ≡ pos 0) × ((direction.x ≢ pos 0) × Sides s center center long wide))
    ⊎ ((direction.x ≡ pos 0) × ((direction.y ≢ pos 0) × Sides s center center wide long))

some_box : (s : Scale) (long wide : ℤ) (center direction : Point)
    → Found (λ (l : Layer) (r : Rect). IsBox s l long wide center direction r)
some_box s long wide center direction =
    found_by (λ (l : Layer) (r : Rect). IsBox s l long wide center direction r) lies fore back
  where
    lies : Decided (Lies s long wide center direction)
    lies = one_of (both_of (is_integer direction.y (pos 0)) (both_of (not_so (is_integer direction.x (pos 0)))
        (some_sides s center center long wide)))
        (both_of (is_integer direction.x (pos 0)) (both_of (not_so (is_integer direction.y (pos 0)))
        (some_sides s center center wide long)))

    fore : Lies s long wide center direction → (l : Layer) → (r : Rect) × IsBox s l long wide center direction r
    fore (inl (level, (some, all))) l =
        let (r, h) = around s center center long wide all l in (r, inl (level, some, h))
    fore (inr (level, (some, all))) l =
        let (r, h) = around s center center wide long all l in (r, inr (level, some, h))

    back : (l : Layer) (r : Rect) → IsBox s l long wide center direction r → Lies s long wide center direction
    back l r (inl (level, some, h)) = inl (level, (some, sides s center center long wide l r h))
    back l r (inr (level, some, h)) = inr (level, (some, sides s center center wide long l r h))

-- ---- wires

-- from this end up to that one
abbrev Rises : Scale → ℤ → Point → Point → Type 0
Rises s wide low high = (low.x ≤ℤ high.x) × ((low.y ≤ℤ high.y) × Sides s low high wide wide)

abbrev Straight : Scale → ℤ → Point → Point → Type 0
Straight s wide p q = ((p.x ≡ q.x) ⊎ (p.y ≡ q.y)) × (Rises s wide p q ⊎ Rises s wide q p)

rises : (s : Scale) (wide : ℤ) (low high : Point) → Decided (Rises s wide low high)
rises s wide low high =
    both_of (is_at_most low.x high.x) (both_of (is_at_most low.y high.y) (some_sides s low high wide wide))

some_segment : (s : Scale) (wide : ℤ) (p q : Point) → Found (λ (l : Layer) (r : Rect). IsSegment s l wide p q r)
some_segment s wide p q = found_by (λ (l : Layer) (r : Rect). IsSegment s l wide p q r)
    (both_of (one_of (is_integer p.x q.x) (is_integer p.y q.y)) (one_of (rises s wide p q) (rises s wide q p)))
    fore back
  where
    fore : Straight s wide p q → (l : Layer) → (r : Rect) × IsSegment s l wide p q r
    fore (axis, inl (x, (y, all))) l = let (r, h) = around s p q wide wide all l in (
      r,
      record {
        on_axis = axis;
        low = p;
        high = q;
        ends = inl (refl, refl);
        across = x;
        upward = y;
        around = h;
      },
    )
    fore (axis, inr (x, (y, all))) l = let (r, h) = around s q p wide wide all l in (
      r,
      record {
        on_axis = axis;
        low = q;
        high = p;
        ends = inr (refl, refl);
        across = x;
        upward = y;
        around = h;
      },
    )

    between : (l : Layer) (r : Rect) (low high o u : Point) → low ≡ o → high ≡ u → low.x ≤ℤ high.x → low.y ≤ℤ high.y
        → IsAround s l low high wide wide r → Rises s wide o u
    between l r low high o u e f x y h =
        subst (λ a. Rises s wide a u) e (subst (Rises s wide low) f (x, (y, sides s low high wide wide l r h)))

    back : (l : Layer) (r : Rect) → IsSegment s l wide p q r → Straight s wide p q
    back l r h = (
      h.on_axis,
      elim h.ends [
        | inl (e, f) ↦ inl (between l r h.low h.high p q e f h.across h.upward h.around)
        | inr (e, f) ↦ inr (between l r h.low h.high q p e f h.across h.upward h.around)
      ],
    )

some_segments : (s : Scale) (wide : ℤ) (ps : List (Point × Point))
    → Found (λ (l : Layer) (rs : List Rect). AreSegments s l wide ps rs)
some_segments s wide [] = inl (λ l. ([], tt))
some_segments s wide (p ∷ ps) = by (some_segment s wide p.0 p.1) (some_segments s wide ps)
  where
    by : Found (λ (l : Layer) (r : Rect). IsSegment s l wide p.0 p.1 r)
        → Found (λ (l : Layer) (rs : List Rect). AreSegments s l wide ps rs)
        → Found (λ (l : Layer) (rs : List Rect). AreSegments s l wide (p ∷ ps) rs)
    by (inl here) (inl more) = inl (λ l. let (r, h) = here l in let (rs, k) = more l in (r ∷ rs, (h, k)))
    by (inr none) more = inr never
      where
        never : (l : Layer) (rs : List Rect) → AreSegments s l wide (p ∷ ps) rs → ⊥
        never l [] h = h
        never l (r ∷ rs) (h, k) = none l r h
    by (inl here) (inr none) = inr never
      where
        never : (l : Layer) (rs : List Rect) → AreSegments s l wide (p ∷ ps) rs → ⊥
        never l [] h = h
        never l (r ∷ rs) (h, k) = none l rs k

-- ---- commands

pub box_edges : (s : Scale) (long wide : ℤ) (center direction : Point)
    → Found (λ (l : Layer) (rs : List Rect). HasEdges s l (Box long wide center direction) rs)
box_edges s long wide center direction = elim (some_box s long wide center direction) [
  | inl here ↦ inl (λ l. let (r, h) = here l in (r ∷ [], (r, refl, h)))
  | inr none ↦ inr (λ l rs (r, e, h). none l r h)
]

pub wire_edges : (s : Scale) (wide : ℤ) (path : List Point)
    → Found (λ (l : Layer) (rs : List Rect). HasEdges s l (Wire wide path) rs)
wire_edges s wide path = some_segments s wide (segments path)

pub is_near_rect : (r : Rect) → Decided (IsNearRect r)
is_near_rect r = same_claim (both_of (is_near r.x0) (both_of (is_near r.y0) (both_of (is_near r.x1) (is_near r.y1))))
    (λ (a, (b, (c, d))). record { x0 = a; y0 = b; x1 = c; y1 = d }) (λ h. (h.x0, (h.y0, (h.x1, h.y1))))
