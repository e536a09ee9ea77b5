-- Rectangles on the lambda grid that aren't one or two lambda apart.
use Rattle.std.proofs.Common.{ℕ, ◌≡◌, ◌+◌, ◌-◌, ◌*◌, ◌/◌, ◌%◌, ◌<◌, ◌≤◌, inl, inr, subst, arith, List}
use Rattle.std.proofs.Common.{true}
use Rattle.std.specs.Prelude.{◌&&◌, All, Contains, ℤ, pos, neg_ℤ, ◌+ℤ◌, ◌≤ℤ◌, ◌<ℤ◌}
use Rattle.std.proofs.lemmas.Bool.{and_parts, cases_lt, eqb-true}
use Rattle.std.proofs.lemmas.Int.{ints, by_lt_z}
use Rattle.std.proofs.lemmas.List.Elements.{All-contains}
use Rattle.lam_geom.specs.declared.layer.Layer.{Layer}
use Rattle.lam_geom.specs.declared.rect.Rect.{Rect}
use Rattle.lam_geom.specs.Moves.{IsNearRect}
use Rattle.lam_geom.specs.Rules.{IsInGap, IsTight}
use Rattle.lam_geom.specs.Rules.Way.{right}
use Rattle.lam_geom.specs.Squares.{covered}
use Rattle.lam_geom.proofs.Covered.{covered_by, covers_all}
use Rattle.rule_edges.specs.declared.along.Along.{Along}
use Rattle.rule_edges.specs.declared.along.Along.TheVariants.{Rows, Columns}
use Rattle.rule_edges.specs.Edges.{AreSpaced, Faces, FitsIn, is_on_grid, is_step, laid, offset}
use Rattle.rule_edges.proofs.Facings.{laid_near, offset_is}

-- squares with that direction along the rows
abbrev pub seen : Along → (ℤ → ℤ → Type 0) → ℤ → ℤ → Type 0
seen Rows on x y = on x y
seen Columns on x y = on y x

pub record IsInside (r : Rect) (x y : ℤ) : Type 0 where
  pub left : r.x0 ≤ℤ x
  pub right_ : x <ℤ r.x1
  pub bottom : r.y0 ≤ℤ y
  pub top : y <ℤ r.y1

-- a rectangle of the list that has a square
pub record HasSquare (shapes : List Rect) (l : Layer) (along : Along) (x y : ℤ) : Type 0 where
  pub rect : Rect
  pub among : Contains shapes rect
  pub same : rect.layer ≡ l
  pub inside : IsInside (laid along rect) x y

pub rect_at : (along : Along) (shapes : List Rect) (l : Layer) (x y : ℤ) → seen along (covered shapes l) x y
    → HasSquare shapes l along x y
rect_at Rows shapes l x y h =
    let (r, among, c) = covered_by shapes l x y h in record {
      rect = r;
      among = among;
      same = c.same;
      inside = record { left = c.left; right_ = c.right; bottom = c.bottom; top = c.top };
    }
rect_at Columns shapes l x y h =
    let (r, among, c) = covered_by shapes l y x h in record {
      rect = r;
      among = among;
      same = c.same;
      inside = record { left = c.bottom; right_ = c.top; bottom = c.left; top = c.right };
    }

pub seen_at : (along : Along) (shapes : List Rect) (l : Layer) (x y : ℤ) (r : Rect) → Contains shapes r
    → r.layer ≡ l → IsInside (laid along r) x y → seen along (covered shapes l) x y
seen_at Rows shapes l x y r among same i = covers_all shapes l x y r among
    (record { same = same; left = i.left; right = i.right_; bottom = i.bottom; top = i.top })
seen_at Columns shapes l x y r among same i = covers_all shapes l y x r among
    (record { same = same; left = i.bottom; right = i.top; bottom = i.left; top = i.right_ })

-- the coordinate is a multiple of a lambda
abbrev IsStep : ℤ → Type 0
IsStep z = (k : ℕ) × (offset z ≡ 500 * k)

step_of : (z : ℤ) → is_step z ≡ true → IsStep z
step_of z e =
    let none = eqb-true (offset z % 500) 0 e in
    (offset z / 500, omega arith)

ends_on_grid : (along : Along) (r : Rect) → is_on_grid r ≡ true → IsStep (laid along r).x0 × IsStep (laid along r).x1
ends_on_grid along r e =
    let (across, up_) = and_parts (is_step r.x0 && is_step r.x1) (is_step r.y0 && is_step r.y1) e in
    let (a, b) = and_parts (is_step r.x0) (is_step r.x1) across in
    let (c, d) = and_parts (is_step r.y0) (is_step r.y1) up_ in
    go along a b c d
  where
    go : (w : Along) → is_step r.x0 ≡ true → is_step r.x1 ≡ true → is_step r.y0 ≡ true → is_step r.y1 ≡ true
        → IsStep (laid w r).x0 × IsStep (laid w r).x1
    go Rows a b c d = (step_of r.x0 a, step_of r.x1 b)
    go Columns a b c d = (step_of r.y0 c, step_of r.y1 d)

module _ (along : Along) (shapes : List Rect) (near : All IsNearRect shapes) where
  -- where a square isn't covered that is one past a square of a rectangle, the rectangle ends
  pub ends_at : (l : Layer) (x y : ℤ) (h : HasSquare shapes l along x y)
      → (¬ seen along (covered shapes l) (x +ℤ pos 1) y) → (laid along h.rect).x1 ≡ x +ℤ pos 1
  ends_at l x y h off =
      let i = h.inside in
      let a = i.left in
      let b = i.right_ in
      by_lt_z (x +ℤ pos 1) (laid along h.rect).x1
      (λ m. absurd (off (seen_at along shapes l (x +ℤ pos 1) y h.rect h.among h.same
      (record { left = omega (arith, ints); right_ = m; bottom = i.bottom; top = i.top }))))
      (λ m. omega (arith, ints))

  -- and where one before it isn't, it begins
  pub begins_at : (l : Layer) (x y : ℤ) (h : HasSquare shapes l along (x +ℤ pos 1) y)
      → (¬ seen along (covered shapes l) x y) → (laid along h.rect).x0 ≡ x +ℤ pos 1
  begins_at l x y h off =
      let i = h.inside in
      let a = i.left in
      let b = i.right_ in
      by_lt_z (laid along h.rect).x0 (x +ℤ pos 1)
      (λ m. absurd (off (seen_at along shapes l x y h.rect h.among h.same
      (record { left = omega (arith, ints); right_ = omega (arith, ints); bottom = i.bottom; top = i.top }))))
      (λ m. omega (arith, ints))

  -- a gap between edges on the grid is a multiple of a lambda
  pub gap_on_grid : (r q : Rect) (gap : ℕ) → Contains shapes r → Contains shapes q → is_on_grid r ≡ true → is_on_grid q ≡ true
      → (laid along q).x0 ≡ (laid along r).x1 +ℤ pos gap → (i j : ℕ) × (500 * j ≡ 500 * i + gap)
  gap_on_grid r q gap in_r in_q on_r on_q e =
      let a = laid_near along r (All-contains IsNearRect shapes r near in_r) in
      let b = laid_near along q (All-contains IsNearRect shapes q near in_q) in
      let c = offset_is (laid along r).x1 a.x1 in
      let d = offset_is (laid along q).x0 b.x0 in
      let (i, f) = (ends_on_grid along r on_r).1 in
      let (j, g) = (ends_on_grid along q on_q).0 in
      let same : offset (laid along q).x0 ≡ offset (laid along r).x1 + gap = omega (arith, ints) in
      (i, j, omega arith)

module _ (shapes : List Rect) (near : All IsNearRect shapes) (l : Layer) (size : ℕ) (small : size ≤ 1500)
    (grid : All (FitsIn l) shapes) where
  no_gap : (along : Along) → AreSpaced l size along shapes → (x y : ℤ)
      → ¬ IsInGap (seen along (covered shapes l)) right size x y
  no_gap along spaced x y t =
      let on = seen along (covered shapes l) in
      let some : 0 < t.back = elim (cases_lt 0 t.back) [
        | inl m ↦ m
        | inr m ↦ absurd (t.open_ (subst (λ z. on z y) (omega (arith, ints)) t.back_end))
      ] in
      let more : 0 < t.ahead = elim (cases_lt 0 t.ahead) [
        | inl m ↦ m
        | inr m ↦ absurd (t.open_ (subst (λ z. on z y) (omega (arith, ints)) t.ahead_end))
      ] in
      let p = x +ℤ neg_ℤ (pos t.back) in
      let q = x +ℤ pos (t.ahead - 1) in
      let r = rect_at along shapes l p y t.back_end in
      let s = rect_at along shapes l (q +ℤ pos 1) y (subst (λ z. on z y) (omega (arith, ints)) t.ahead_end) in
      let end = ends_at along shapes near l p y r
      (λ h. t.back_open (t.back - 1) (omega arith) (subst (λ z. on z y) (omega (arith, ints)) h)) in
      let start = begins_at along shapes near l q y s (λ h. t.ahead_open (t.ahead - 1) (omega arith) h) in
      let short = t.short in
      let gap = t.back + t.ahead - 1 in
      let meet : (laid along s.rect).x0 ≡ (laid along r.rect).x1 +ℤ pos gap = omega (arith, ints) in
      let (i, j, whole) = gap_on_grid along shapes near r.rect s.rect gap r.among s.among
      (All-contains (FitsIn l) shapes r.rect grid r.among r.same)
      (All-contains (FitsIn l) shapes s.rect grid s.among s.same) meet in
      let faces : Faces gap (laid along r.rect) (laid along s.rect) = record {
        meet = meet;
        row = y;
        r_bottom = r.inside.bottom;
        r_top = r.inside.top;
        q_bottom = s.inside.bottom;
        q_top = s.inside.top;
      } in
      elim (cases_lt gap 1000) [
        | inl m ↦ (let e : gap ≡ 500 = omega arith in
            spaced.near r.rect s.rect r.among s.among r.same s.same
            (subst (λ z. Faces z (laid along r.rect) (laid along s.rect)) e faces))
        | inr m ↦ (let e : gap ≡ 1000 = omega arith in
            spaced.far (omega arith) r.rect s.rect r.among s.among r.same s.same
            (subst (λ z. Faces z (laid along r.rect) (laid along s.rect)) e faces))
      ]

  pub none_tight : AreSpaced l size Rows shapes → AreSpaced l size Columns shapes → (x y : ℤ)
      → ¬ IsTight (covered shapes l) size x y
  none_tight rows columns x y (inl t) = no_gap Rows rows x y (record {
    back = t.back;
    ahead = t.ahead;
    back_end = t.back_end;
    ahead_end = t.ahead_end;
    back_open = t.back_open;
    ahead_open = t.ahead_open;
    open_ = t.open_;
    short = t.short;
  })
  none_tight rows columns x y (inr t) = no_gap Columns columns y x (record {
    back = t.back;
    ahead = t.ahead;
    back_end = t.back_end;
    ahead_end = t.ahead_end;
    back_open = t.back_open;
    ahead_open = t.ahead_open;
    open_ = t.open_;
    short = t.short;
  })
