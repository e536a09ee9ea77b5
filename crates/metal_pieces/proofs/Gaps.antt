-- Rectangles of which each two are three lambda apart, or leave no gap, cover an area without gaps that are narrower.
use Rattle.std.proofs.Common.{◌≡◌, ◌⊎◌, inl, inr, ℕ, zero, suc, ◌+◌, ◌<◌, ◌≤◌, refl, sym, ◌∙◌, subst, arith, List, [], ◌∷◌}
use Rattle.std.specs.Prelude.{ℤ, pos, neg_ℤ, ◌+ℤ◌, ◌≤ℤ◌, ◌<ℤ◌}
use Rattle.std.proofs.lemmas.Int.{ints, by_lt_z}
use Rattle.mp_base.proofs.Members.{Member}
use Rattle.lam_geom.specs.declared.layer.Layer.{Layer}
use Rattle.lam_geom.specs.declared.rect.Rect.{Rect}
use Rattle.lam_geom.specs.Squares.{Covers, covered}
use Rattle.lam_geom.specs.Rules.{At, IsInGap, IsTight}
use Rattle.lam_geom.specs.Rules.Way.{right, left, up, down}
use Rattle.metal_pieces.specs.Pieces.{IsBeyond}

-- from the first rectangle on, in each row that both have, the second is three lambda further or begins at once
pub data IsClosedRow (r q : Rect) : Type 0 where
  apart : (r.x1 +ℤ pos 1500) ≤ℤ q.x0 → IsClosedRow r q
  meets : q.x0 ≤ℤ r.x1 → IsClosedRow r q
  before : q.x1 ≤ℤ r.x0 → IsClosedRow r q
  beside : (r.y1 ≤ℤ q.y0) ⊎ (q.y1 ≤ℤ r.y0) → IsClosedRow r q

-- a rectangle that fills the columns that both have, from the first one to the second
pub record Fills (v r q : Rect) : Type 0 where
  pub layer : v.layer ≡ q.layer
  pub low : v.y0 ≤ℤ r.y1
  pub high : q.y0 ≤ℤ v.y1
  pub from : (v.x0 ≤ℤ r.x0) ⊎ (v.x0 ≤ℤ q.x0)
  pub to : (r.x1 ≤ℤ v.x1) ⊎ (q.x1 ≤ℤ v.x1)

-- and so in each column, or another of the rectangles fills the gap
pub data IsClosedColumn (rs : List Rect) (r q : Rect) : Type 0 where
  over : (r.y1 +ℤ pos 1500) ≤ℤ q.y0 → IsClosedColumn rs r q
  joins : q.y0 ≤ℤ r.y1 → IsClosedColumn rs r q
  under : q.y1 ≤ℤ r.y0 → IsClosedColumn rs r q
  aside : (r.x1 ≤ℤ q.x0) ⊎ (q.x1 ≤ℤ r.x0) → IsClosedColumn rs r q
  filled : (v : Rect) → Member rs v → Fills v r q → IsClosedColumn rs r q

pub by_member : (rs : List Rect) (l : Layer) (x y : ℤ) → covered rs l x y → (r : Rect) × Member rs r × Covers r l x y
by_member [] l x y h = absurd h
by_member (r ∷ rs) l x y (inl h) = (r, inl refl, h)
by_member (r ∷ rs) l x y (inr h) = let g = by_member rs l x y h in (g.0, inr g.1, g.2)

pub of_member : (rs : List Rect) (l : Layer) (x y : ℤ) (r : Rect) → Member rs r → Covers r l x y → covered rs l x y
of_member [] l x y r m c = absurd m
of_member (q ∷ rs) l x y r (inl e) c = inl (subst (λ z. Covers z l x y) (sym e) c)
of_member (q ∷ rs) l x y r (inr m) c = inr (of_member rs l x y r m c)

module _ (rs : List Rect) (l : Layer) (x y : ℤ) where
  abbrev on : ℤ → ℤ → Type 0
  on = covered rs l

  row_shut : (b a : ℕ) (r q : Rect) → Member rs r → Member rs q → Covers r l (x +ℤ neg_ℤ (pos (suc b))) y
      → Covers q l (x +ℤ pos (suc a)) y → ¬ on (x +ℤ neg_ℤ (pos b)) y → ¬ on (x +ℤ pos a) y
      → suc b + suc a ≤ 1500 → IsClosedRow r q → ⊥
  row_shut b a r q m n c d u v s (apart h) = let i = c.right in let j = d.left in omega (arith, ints)
  row_shut b a r q m n c d u v s (before h) = let i = c.left in let j = d.right in omega (arith, ints)
  row_shut b a r q m n c d u v s (beside h) =
      let c0 = c.bottom in let c1 = c.top in let d0 = d.bottom in let d1 = d.top in
      elim h [ inl e ↦ omega (arith, ints) | inr e ↦ omega (arith, ints) ]
  row_shut b a r q m n c d u v s (meets h) =
      let c0 = c.left in let c1 = c.right in let d0 = d.left in let d1 = d.right in
      by_lt_z (x +ℤ neg_ℤ (pos b)) r.x1
      (λ k. u (of_member rs l (x +ℤ neg_ℤ (pos b)) y r m (record {
        same = c.same;
        left = omega (arith, ints);
        right = k;
        bottom = c.bottom;
        top = c.top;
      })))
      (λ k. by_lt_z (x +ℤ pos a) q.x0
      (λ e. omega (arith, ints))
      (λ e. v (of_member rs l (x +ℤ pos a) y q n (record {
        same = d.same;
        left = e;
        right = omega (arith, ints);
        bottom = d.bottom;
        top = d.top;
      }))))

  column_shut : (b a : ℕ) (r q : Rect) → Member rs r → Member rs q → Covers r l x (y +ℤ neg_ℤ (pos (suc b)))
      → Covers q l x (y +ℤ pos (suc a)) → ¬ on x (y +ℤ neg_ℤ (pos b)) → ¬ on x (y +ℤ pos a) → ¬ on x y
      → suc b + suc a ≤ 1500 → IsClosedColumn rs r q → ⊥
  column_shut b a r q m n c d u v o s (over h) = let i = c.top in let j = d.bottom in omega (arith, ints)
  column_shut b a r q m n c d u v o s (under h) = let i = c.bottom in let j = d.top in omega (arith, ints)
  column_shut b a r q m n c d u v o s (aside h) =
      let c0 = c.left in let c1 = c.right in let d0 = d.left in let d1 = d.right in
      elim h [ inl e ↦ omega (arith, ints) | inr e ↦ omega (arith, ints) ]
  column_shut b a r q m n c d u v o s (joins h) =
      let c0 = c.bottom in let c1 = c.top in let d0 = d.bottom in let d1 = d.top in
      by_lt_z (y +ℤ neg_ℤ (pos b)) r.y1
      (λ k. u (of_member rs l x (y +ℤ neg_ℤ (pos b)) r m (record {
        same = c.same;
        left = c.left;
        right = c.right;
        bottom = omega (arith, ints);
        top = k;
      })))
      (λ k. by_lt_z (y +ℤ pos a) q.y0
      (λ e. omega (arith, ints))
      (λ e. v (of_member rs l x (y +ℤ pos a) q n (record {
        same = d.same;
        left = d.left;
        right = d.right;
        bottom = e;
        top = omega (arith, ints);
      }))))
  column_shut b a r q m n c d u v o s (filled w k f) =
      let c0 = c.left in let c1 = c.right in let d0 = d.left in let d1 = d.right in
      let c2 = c.bottom in let c3 = c.top in let d2 = d.bottom in let d3 = d.top in
      let f0 = f.low in let f1 = f.high in
      let x0 : w.x0 ≤ℤ x = elim f.from [ inl e ↦ omega (arith, ints) | inr e ↦ omega (arith, ints) ] in
      let x1 : x <ℤ w.x1 = elim f.to [ inl e ↦ omega (arith, ints) | inr e ↦ omega (arith, ints) ] in
      by_lt_z (y +ℤ neg_ℤ (pos b)) r.y1
      (λ g. u (of_member rs l x (y +ℤ neg_ℤ (pos b)) r m (record {
        same = c.same;
        left = c.left;
        right = c.right;
        bottom = omega (arith, ints);
        top = g;
      })))
      (λ g. by_lt_z (y +ℤ pos a) q.y0
      (λ e. o (of_member rs l x y w k (record {
        same = f.layer ∙ d.same;
        left = x0;
        right = x1;
        bottom = omega (arith, ints);
        top = omega (arith, ints);
      })))
      (λ e. v (of_member rs l x (y +ℤ pos a) q n (record {
        same = d.same;
        left = d.left;
        right = d.right;
        bottom = e;
        top = omega (arith, ints);
      }))))

  here_left : x +ℤ neg_ℤ (pos 0) ≡ x
  here_left = omega (arith, ints)

  here_right : x +ℤ pos 0 ≡ x
  here_right = omega (arith, ints)

  here_down : y +ℤ neg_ℤ (pos 0) ≡ y
  here_down = omega (arith, ints)

  here_up : y +ℤ pos 0 ≡ y
  here_up = omega (arith, ints)

  module _ (rows : (r q : Rect) → Member rs r → Member rs q → IsClosedRow r q)
      (columns : (r q : Rect) → Member rs r → Member rs q → IsClosedColumn rs r q) where
    in_row : (back ahead : ℕ) → At on left x y back → At on right x y ahead
        → ((k : ℕ) → k < back → ¬ At on left x y k) → ((k : ℕ) → k < ahead → ¬ At on right x y k) → ¬ on x y
        → back + ahead ≤ 1500 → ⊥
    in_row zero ahead g h u v o s = o (subst (λ z. on z y) here_left g)
    in_row (suc b) zero g h u v o s = o (subst (λ z. on z y) here_right h)
    in_row (suc b) (suc a) g h u v o s =
        let m = by_member rs l (x +ℤ neg_ℤ (pos (suc b))) y g in
        let n = by_member rs l (x +ℤ pos (suc a)) y h in
        row_shut b a m.0 n.0 m.1 n.1 m.2 n.2 (u b (omega arith)) (v a (omega arith)) s (rows m.0 n.0 m.1 n.1)

    in_column : (back ahead : ℕ) → At on down x y back → At on up x y ahead
        → ((k : ℕ) → k < back → ¬ At on down x y k) → ((k : ℕ) → k < ahead → ¬ At on up x y k) → ¬ on x y
        → back + ahead ≤ 1500 → ⊥
    in_column zero ahead g h u v o s = o (subst (λ z. on x z) here_down g)
    in_column (suc b) zero g h u v o s = o (subst (λ z. on x z) here_up h)
    in_column (suc b) (suc a) g h u v o s =
        let m = by_member rs l x (y +ℤ neg_ℤ (pos (suc b))) g in
        let n = by_member rs l x (y +ℤ pos (suc a)) h in
        column_shut b a m.0 n.0 m.1 n.1 m.2 n.2 (u b (omega arith)) (v a (omega arith)) o s (columns m.0 n.0 m.1 n.1)

    pub not_tight : ¬ IsTight on 1500 x y
    not_tight (inl g) = in_row g.back g.ahead g.back_end g.ahead_end g.back_open g.ahead_open g.open_ g.short
    not_tight (inr g) = in_column g.back g.ahead g.back_end g.ahead_end g.back_open g.ahead_open g.open_ g.short

-- spaced rectangles are so
pub spaced_rows : (r q : Rect) → IsBeyond r q → IsClosedRow r q
spaced_rows r q (inl h) = apart h
spaced_rows r q (inr (inl h)) = before (omega (arith, ints))
spaced_rows r q (inr (inr (inl h))) = beside (inl (omega (arith, ints)))
spaced_rows r q (inr (inr (inr h))) = beside (inr (omega (arith, ints)))

pub spaced_columns : (rs : List Rect) (r q : Rect) → IsBeyond r q → IsClosedColumn rs r q
spaced_columns rs r q (inl h) = aside (inl (omega (arith, ints)))
spaced_columns rs r q (inr (inl h)) = aside (inr (omega (arith, ints)))
spaced_columns rs r q (inr (inr (inl h))) = over h
spaced_columns rs r q (inr (inr (inr h))) = under (omega (arith, ints))
