-- The squares that no wholly covered block has.
use Rattle.std.proofs.Common.{ℕ, ◌≡◌, ◌+◌, ◌^◌, ◌<◌, ◌⊎◌, List, [], ◌∷◌, inl, inr, arith}
use Rattle.std.specs.Prelude.{◌↔◌, All, ℤ, pos, neg_ℤ, ◌+ℤ◌, ◌≤ℤ◌, ◌<ℤ◌}
use Rattle.std.proofs.Common.{Option, Some, None}
use Rattle.std.proofs.lemmas.Int.{ints, by_lt_z}
use Rattle.std.proofs.lemmas.List.Elements.{All-contains}
use Rattle.lam_geom.specs.declared.rect.Rect.{Rect}
use Rattle.lam_geom.specs.declared.place.Point.{Point}
use Rattle.lam_geom.specs.Moves.{IsNearRect}
use Rattle.rule_tiles.specs.First.{IsFirst}
use Rattle.lam_geom.specs.Rules.{IsInBlock, IsWhole, IsNarrow}
use Rattle.rule_tiles.specs.Areas.{Reaches, reached, held, IsAreaOf, Lacks, field, IsWide}
use Rattle.rule_tiles.proofs.Areas.{reached_by, reaches_all}
use Rattle.rule_tiles.proofs.Growing.{some_in_block, corner_reached, corner_of_block, block_reached}

reaches_or_not : (r : Rect) (x y : ℤ) → Reaches 0 0 r x y ⊎ (¬ Reaches 0 0 r x y)
reaches_or_not r x y =
    by_lt_z x r.x0 (λ m. inr (λ h. let g = h.left in omega (arith, ints)))
    (λ a. by_lt_z x r.x1 (λ b. by_lt_z y r.y0 (λ m. inr (λ h. let g = h.bottom in omega (arith, ints)))
    (λ c. by_lt_z y r.y1 (λ d. inl (record {
      left = omega (arith, ints);
      right = omega (arith, ints);
      bottom = omega (arith, ints);
      top = omega (arith, ints);
    }))
    (λ m. inr (λ h. let g = h.top in omega (arith, ints)))))
    (λ m. inr (λ h. let g = h.right in omega (arith, ints))))

pub held_or_not : (rs : List Rect) (x y : ℤ) → held rs x y ⊎ (¬ held rs x y)
held_or_not [] x y = inr (λ h. h)
held_or_not (r ∷ rs) x y = elim (reaches_or_not r x y) [
  | inl h ↦ inl (inl h)
  | inr n ↦ elim (held_or_not rs x y) [
    | inl h ↦ inl (inr h)
    | inr m ↦ inr (λ h. elim h [ inl a ↦ n a | inr a ↦ m a ])
  ]
]

-- a block on the area that what lacks has no square of is whole
pub whole_block : (own from lacks : List Rect) (taken : ℤ → ℤ → Type 0) (side n : ℕ) → side ≡ n + 1
    → ((x y : ℤ) → held own x y → taken x y) → ((x y : ℤ) → taken x y → held own x y)
    → IsAreaOf (Lacks (held from) taken) lacks → (a b : ℤ) → ((x y : ℤ) → IsInBlock a b side x y → held from x y)
    → ¬ reached n 0 lacks a b → IsWhole (held own) a b side
whole_block own from lacks taken side n is to back area a b inside none x y i = elim (held_or_not own x y) [
  | inl h ↦ h
  | inr m ↦ absurd (none (corner_reached lacks area.solid n side is a b x y
      ((area.same x y).1 (inside x y i, λ t. m (back x y t))) i))
]

pub open_block : (own from lacks : List Rect) (taken : ℤ → ℤ → Type 0) (side n : ℕ) → side ≡ n + 1
    → ((x y : ℤ) → held own x y → taken x y)
    → IsAreaOf (Lacks (held from) taken) lacks → (a b : ℤ) → reached n 0 lacks a b → ¬ IsWhole (held own) a b side
open_block own from lacks taken side n is to area a b h whole =
    let g = some_in_block lacks area.solid n side is a b h in
    let l = (area.same g.0 g.1).0 g.2 in
    l.1 (to g.0 g.1 (whole g.0 g.1 g.3))

abbrev pub near_edge : ℤ
near_edge = pos 2_199_023_255_552

abbrev pub far_edge : ℤ
far_edge = pos 4_398_046_511_104

-- what is near is held by the near field, and blocks from there are on the far one
module _ (own : List Rect) (near : All IsNearRect own) where
  on_near : (x y : ℤ) → held own x y → held (field near_edge ∷ []) x y
  on_near x y h =
      let g = reached_by 0 0 own x y h in
      let n = All-contains IsNearRect own g.0 near g.1 in
      let r = g.2 in
      let l = r.left in
      let m = r.right in
      let o = r.bottom in
      let p = r.top in
      let n0 = n.x0.0 in
      let n1 = n.x1.1 in
      let n2 = n.y0.0 in
      let n3 = n.y1.1 in
      inl (record {
        left = omega (arith, ints);
        right = omega (arith, ints);
        bottom = omega (arith, ints);
        top = omega (arith, ints);
      })

on_far : (size : ℕ) (a b : ℤ) → size < 2 ^ 16 → held (field near_edge ∷ []) a b → (x y : ℤ)
    → IsInBlock a b size x y → held (field far_edge ∷ []) x y
on_far size a b small (inl h) x y i =
    let l = h.left in
    let m = h.right in
    let o = h.bottom in
    let p = h.top in
    let il = i.left in
    let ir = i.right in
    let ib = i.bottom in
    let it = i.top in
    inl (record {
      left = omega (arith, ints);
      right = omega (arith, ints);
      bottom = omega (arith, ints);
      top = omega (arith, ints);
    })
on_far size a b small (inr h) x y i = absurd h

-- the squares of the area that no block inside it has
pub narrow_area : (own holes corners narrow : List Rect) (size n : ℕ) → size ≡ n + 1 → size < 2 ^ 16
    → All IsNearRect own
    → IsAreaOf (Lacks (held (field far_edge ∷ [])) (held own)) holes
    → IsAreaOf (Lacks (held (field near_edge ∷ [])) (reached n 0 holes)) corners
    → IsAreaOf (Lacks (held own) (reached 0 n corners)) narrow
    → IsAreaOf (IsNarrow (held own) size) narrow
narrow_area own holes corners narrow size n is small near h c a = record {
  same = λ x y. (
    λ m. let g = (a.same x y).0 m in record {
      here = g.0;
      alone = λ p q i whole. g.1 (block_reached corners c.solid n size is p q x y (whole_corner p q whole) i);
    },
    λ m. (a.same x y).1 (
      m.here,
      λ r.
          let g = corner_of_block corners c.solid n size is x y r in
          let k = (c.same g.0 g.1).0 g.2 in
          m.alone g.0 g.1 g.3 (whole_block own (field far_edge ∷ []) holes (held own) size n is (λ p q z. z)
          (λ p q z. z)
          h g.0 g.1 (on_far size g.0 g.1 small k.0) k.1),
    ),
  );
  solid = a.solid;
  ordered = a.ordered;
}
  where
    whole_corner : (p q : ℤ) → IsWhole (held own) p q size → held corners p q
    whole_corner p q whole =
        let first : held own p q = whole p q (record {
          left = omega (arith, ints);
          right = omega (arith, ints);
          bottom = omega (arith, ints);
          top = omega (arith, ints);
        }) in
        (c.same p q).1 (
          on_near own near p q first,
          λ r.
              open_block own (field far_edge ∷ []) holes (held own) size n is (λ p q z. z) h p q r whole,
        )

-- in wide rectangles no square is narrow
pub none_narrow : (own : List Rect) (size : ℕ) → 0 < size → All (IsWide size) own → (x y : ℤ)
    → ¬ IsNarrow (held own) size x y
none_narrow own size some wide x y h =
    let g = reached_by 0 0 own x y h.here in
    let w = All-contains (IsWide size) own g.0 wide g.1 in
    let r = g.2 in
    let l = r.left in
    let m = r.right in
    let o = r.bottom in
    let p = r.top in
    let ww = w.wide in
    let wt = w.tall in
    let a = start (g.0).x0 (g.0).x1 x some (omega (arith, ints)) (omega (arith, ints)) ww in
    let b = start (g.0).y0 (g.0).y1 y some (omega (arith, ints)) (omega (arith, ints)) wt in
    let a1 = a.1 in
    let a2 = a.2 in
    let b1 = b.1 in
    let b2 = b.2 in
    h.alone a.0 b.0 (record { left = a.3; right = a.4; bottom = b.3; top = b.4 }) (λ u v i.
    let il = i.left in
    let ir = i.right in
    let ib = i.bottom in
    let it = i.top in
    reaches_all 0 0 own u v g.0 g.1 (record {
      left = omega (arith, ints);
      right = omega (arith, ints);
      bottom = omega (arith, ints);
      top = omega (arith, ints);
    }))
  where
    start : (c d z : ℤ) → 0 < size → c ≤ℤ z → z <ℤ d → (c +ℤ pos size) ≤ℤ d
        → (e : ℤ) × (c ≤ℤ e) × ((e +ℤ pos size) ≤ℤ d) × (e ≤ℤ z) × (z <ℤ (e +ℤ pos size))
    start c d z some low high wide = by_lt_z z (c +ℤ pos size)
        (λ h. (c, omega (arith, ints), omega (arith, ints), low, h))
        (λ h. by_lt_z d (z +ℤ pos size)
        (λ k. (
          d +ℤ neg_ℤ (pos size),
          omega (arith, ints),
          omega (arith, ints),
          omega (arith, ints),
          omega (arith, ints),
        ))
        (λ k. (z, omega (arith, ints), omega (arith, ints), omega (arith, ints), omega (arith, ints))))

-- ---- the first of a kind

pub first_same : (P Q : ℤ → ℤ → Type 0) → ((x y : ℤ) → P x y → Q x y) → ((x y : ℤ) → Q x y → P x y)
    → (o : Option Point) → IsFirst P o → IsFirst Q o
first_same P Q f g None h = λ x y q. h x y (g x y q)
first_same P Q f g (Some p) h = (f p.x p.y h.0, λ x y b q. h.1 x y b (g x y q))

narrow_of : (P Q : ℤ → ℤ → Type 0) (size : ℕ) → ((x y : ℤ) → P x y → Q x y) → ((x y : ℤ) → Q x y → P x y)
    → (x y : ℤ) → IsNarrow P size x y → IsNarrow Q size x y
narrow_of P Q size f g x y h = record {
  here = f x y h.here;
  alone = λ a b i w. h.alone a b i (λ u v m. g u v (w u v m));
}

module _ (own : List Rect) (on : ℤ → ℤ → Type 0) (size : ℕ) (same : (x y : ℤ) → held own x y ↔ on x y) where
  pub none_narrow_on : 0 < size → All (IsWide size) own → IsFirst (IsNarrow on size) None
  none_narrow_on some wide = λ x y h. none_narrow own size some wide x y
      (narrow_of on (held own) size (λ u v. (same u v).1) (λ u v. (same u v).0) x y h)

  pub first_narrow_on : (narrow : List Rect) → IsAreaOf (IsNarrow (held own) size) narrow → (o : Option Point)
      → IsFirst (held narrow) o → IsFirst (IsNarrow on size) o
  first_narrow_on narrow a o h = first_same (held narrow) (IsNarrow on size)
      (λ x y m. narrow_of (held own) on size (λ u v. (same u v).0) (λ u v. (same u v).1) x y ((a.same x y).0 m))
      (λ x y m. (a.same x y).1 (narrow_of on (held own) size (λ u v. (same u v).1) (λ u v. (same u v).0) x y m)) o h
