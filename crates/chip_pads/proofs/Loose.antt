-- The metal of a fabric and its pads has no gap narrower than three lambda, so that the whole is clean.
use Rattle.std.proofs.Common.{◌≡◌, ◌⊎◌, ◌<◌, ◌≤◌, ◌+◌, ◌-◌, ◌*◌, ℕ, zero, suc, inl, inr, refl, sym, ◌∙◌, ap, subst}
use Rattle.std.proofs.Common.{List, [], ◌∷◌, ◌++◌, length, arith, Contains}
use Rattle.std.specs.Prelude.{ℤ, pos, neg_ℤ, ◌+ℤ◌, ◌-ℤ◌, ◌*ℤ◌, ◌≤ℤ◌, ◌<ℤ◌, flat_map}
use Rattle.std.specs.List.{range_with_len}
use Rattle.std.proofs.lemmas.Bool.{cases_lt}
use Rattle.std.proofs.lemmas.Int.{ints, by_lt_z}
use Rattle.mp_base.proofs.Members.{Member}
use Rattle.lam_geom.specs.declared.layer.Layer.{Layer}
use Rattle.lam_geom.specs.declared.layer.Layer.TheVariants.{NM, NC}
use Rattle.lam_geom.specs.declared.rect.Rect.{Rect}
use Rattle.lam_geom.specs.Rules.{At, IsInGap, IsTight, IsClean}
use Rattle.lam_geom.specs.Rules.Way.{right, left, up, down}
use Rattle.lam_geom.specs.Squares.{Covers, covered, RectanglesAreJoined}
use Rattle.tile_cells.specs.declared.tile.Tile.TheVariants.{Under}
use Rattle.fabric.specs.declared.thing.Mark.{Mark}
use Rattle.fabric.specs.Plan.{Plan, IsFabric, bands}
use Rattle.fabric.specs.Shape.{base, shape}
use Rattle.fabric_laws.specs.Clean.{FabricsAreClean}
use Rattle.fabric_laws.specs.West.{crossing_low, FacesWest, FabricsFaceWest}
use Rattle.chip_pads.proofs.Metal.{IsBroad, clean_with_metal}
use Rattle.metal_pieces.specs.Pieces.{all_of}
use Rattle.metal_pieces.proofs.Covering.{covered_append, append_covered}
use Rattle.metal_pieces.proofs.Gaps.{IsClosedRow, IsClosedColumn, by_member, of_member, not_tight}
use Rattle.metal_pieces.proofs.Gaps.IsClosedRow.{apart, meets, before}
use Rattle.metal_pieces.proofs.Gaps.IsClosedColumn.{joins, aside}
use Rattle.pad_frame.specs.declared.frames.PadWish.{PadWish}
use Rattle.pad_frame.specs.declared.frames.Framed.{Framed}
use Rattle.pad_frame.specs.Frames.{row_at, piece_of, AreFramed}
use Rattle.pad_frame.proofs.Loose.{IsThick, Reaches, short, port, all_closed, all_thick, in_more}
use Rattle.chip_pads.specs.Ports.{bridge, ArePorts, pieces_of, PadsAreClean}
use Rattle.chip_pads.proofs.Glued as glued
use Rattle.chip_pads.proofs.Glued.{pads_drawn}

module _ (joined : RectanglesAreJoined) (f : Plan) (w : IsFabric f) (west : FacesWest f)
    (clean : IsClean (covered (shape f))) (wishes : List PadWish) (framed : Framed) (fr : AreFramed wishes framed)
    (ports : ArePorts f wishes) where
  abbrev all : List Rect
  all = flat_map (piece_of wishes) (range_with_len 0 (length wishes))

  abbrev extra : List Rect
  extra = bridge ∷ all

  abbrev whole : List Rect
  whole = shape f ++ extra

  abbrev on : ℤ → ℤ → Type 0
  on = covered whole NM

  abbrev Old : ℤ → ℤ → Type 0
  Old = covered (shape f) NM

  -- ---- the frame with the bridge

  at_edge : (s : Rect) → Member all s → s.x1 ≤ℤ pos 0
  at_edge s m = by (all_thick wishes framed fr s m).2.reaches
    where
      by : {row : ℤ} → Reaches row s → s.x1 ≤ℤ pos 0
      by (short h) = omega (arith, ints)
      by (port h y0 y1) = omega (arith, ints)

  to_bridge : (s : Rect) → Member all s → IsClosedRow s bridge
  to_bridge s m = by (all_thick wishes framed fr s m).2.reaches
    where
      by : {row : ℤ} → Reaches row s → IsClosedRow s bridge
      by (short h) = apart h
      by (port h y0 y1) = meets (omega (arith, ints))

  rows : (s t : Rect) → Member extra s → Member extra t → IsClosedRow s t
  rows s t (inl e) (inl g) = subst (λ z. IsClosedRow z t) e (subst (IsClosedRow bridge) g (meets (omega (arith, ints))))
  rows s t (inl e) (inr n) = subst (λ z. IsClosedRow z t) e (before (at_edge t n))
  rows s t (inr m) (inl g) = subst (IsClosedRow s) g (to_bridge s m)
  rows s t (inr m) (inr n) = (all_closed wishes framed fr s t m n).0

  columns : (s t : Rect) → Member extra s → Member extra t → IsClosedColumn extra s t
  columns s t (inl e) (inl g) =
      subst (λ z. IsClosedColumn extra z t) e
      (subst (IsClosedColumn extra bridge) g (joins (omega (arith, ints))))
  columns s t (inl e) (inr n) = subst (λ z. IsClosedColumn extra z t) e (aside (inr (at_edge t n)))
  columns s t (inr m) (inl g) = subst (IsClosedColumn extra s) g (aside (inl (at_edge s m)))
  columns s t (inr m) (inr n) = in_more all extra (λ v k. inr k) s t (all_closed wishes framed fr s t m n).1

  extra_loose : (x y : ℤ) → ¬ IsTight (covered extra NM) 1500 x y
  extra_loose x y = not_tight extra NM x y rows columns

  -- ---- where the frame comes to the fabric

  tall : 36 ≤ base f (bands f)
  tall = glued.tall joined f w west wishes framed fr ports

  not_low : (x y : ℤ) → Old x y → x <ℤ pos 3500 → y <ℤ pos 9000 → ⊥
  not_low x y c a b = glued.not_low joined f w west wishes framed fr ports NM (inl refl) x y c a b

  old_on : (x y : ℤ) → Old x y → on x y
  old_on x y h = append_covered (shape f) extra NM x y (inl h)

  more_on : (x y : ℤ) (r : Rect) → Member extra r → Covers r NM x y → on x y
  more_on x y r m c = append_covered (shape f) extra NM x y (inr (of_member extra NM x y r m c))

  -- the trunk of ground
  trunk_on : (y : ℤ) → pos 3000 ≤ℤ y → y <ℤ pos 5000 → on (pos 3500) y
  trunk_on y a b = let z = tall in old_on (pos 3500) y (inl (record {
    same = refl;
    left = omega (arith, ints);
    right = omega (arith, ints);
    bottom = omega (arith, ints);
    top = omega (arith, ints);
  }))

  -- at each port there is metal behind the edge
  port_on : (j : ℕ) → j < length wishes → (y : ℤ) → (pos 500 *ℤ row_at wishes j) ≤ℤ y
      → y <ℤ (pos 500 *ℤ (row_at wishes j +ℤ pos 4)) → on (pos 0) y
  port_on zero h y a b =
      let g = ports.ground in
      more_on (pos 0) y bridge (inl refl) (record {
        same = refl;
        left = omega (arith, ints);
        right = omega (arith, ints);
        bottom = omega (arith, ints);
        top = omega (arith, ints);
      })
  port_on (suc j) h y a b =
      let o = ports.others (suc j) (omega arith) h in
      let e = o.3 in
      old_on (pos 0) y (west.drawn o.0 (record { layer = NM; x = pos 0; y = y }) (record {
        at = record { among = o.1; tile = o.2; low = omega (arith, ints); high = omega (arith, ints) };
        layer = refl;
        left = omega (arith, ints);
        right = omega (arith, ints);
      }))

  -- from a square of the frame there is no short way in a row to the fabric
  from_frame : (x y : ℤ) (b a : ℕ) (r : Rect) → Member extra r → Covers r NM (x +ℤ neg_ℤ (pos (suc b))) y
      → Old (x +ℤ pos (suc a)) y → ¬ on (x +ℤ neg_ℤ (pos b)) y → suc b + suc a ≤ 1500 → ⊥
  from_frame x y b a r (inl e) c q u s =
      let c0 = (subst (λ z. Covers z NM (x +ℤ neg_ℤ (pos (suc b))) y) (sym e) c) in
      let i0 = c0.left in let i1 = c0.right in let i2 = c0.bottom in let i3 = c0.top in
      by_lt_z (x +ℤ neg_ℤ (pos b)) (pos 3500)
      (λ k. u (more_on (x +ℤ neg_ℤ (pos b)) y bridge (inl refl) (record {
        same = refl;
        left = omega (arith, ints);
        right = k;
        bottom = i2;
        top = i3;
      })))
      (λ k. (let at : pos 3500 ≡ x +ℤ neg_ℤ (pos b) = omega (arith, ints) in
      u (subst (λ z. on z y) at (trunk_on y (omega (arith, ints)) (omega (arith, ints))))))
  from_frame x y b a r (inr m) c q u s = by (all_thick wishes framed fr r m).2.reaches
    where
      j : ℕ
      j = (all_thick wishes framed fr r m).0

      by : Reaches (row_at wishes (all_thick wishes framed fr r m).0) r → ⊥
      by (short h) = let i1 = c.right in let z = west.east NM (x +ℤ pos (suc a)) y q in omega (arith, ints)
      by (port h y0 y1) =
          let i0 = c.left in let i1 = c.right in let i2 = c.bottom in let i3 = c.top in
          by_lt_z (x +ℤ neg_ℤ (pos b)) (pos 0)
          (λ k. u (more_on (x +ℤ neg_ℤ (pos b)) y r (inr m) (record {
            same = c.same;
            left = omega (arith, ints);
            right = omega (arith, ints);
            bottom = i2;
            top = i3;
          })))
          (λ k. (let at : pos 0 ≡ x +ℤ neg_ℤ (pos b) = omega (arith, ints) in
          u (subst (λ z. on z y) at (port_on (all_thick wishes framed fr r m).0 (all_thick wishes framed fr r m).1 y
          (subst (λ z. z ≤ℤ y) y0 i2) (subst (λ z. y <ℤ z) y1 i3)))))

  -- nor from the fabric to the frame
  to_frame : (x y z : ℤ) (r : Rect) → Member extra r → Old x y → x <ℤ z → Covers r NM z y → ⊥
  to_frame x y z r (inl e) c h d =
      let d0 = (subst (λ q. Covers q NM z y) (sym e) d) in
      let i1 = d0.right in let i3 = d0.top in
      not_low x y c (omega (arith, ints)) (omega (arith, ints))
  to_frame x y z r (inr m) c h d =
      let i1 = d.right in let g = at_edge r m in let x0 = west.east NM x y c in omega (arith, ints)

  -- in a column the frame's metal is far below the fabric's
  over_frame : (x y z : ℤ) (r : Rect) → Member extra r → Covers r NM x y → Old x z → (y +ℤ pos 4000) <ℤ z
  over_frame x y z r (inl e) c d =
      let c0 = (subst (λ q. Covers q NM x y) (sym e) c) in
      let i1 = c0.right in let i3 = c0.top in
      by_lt_z z (pos 9000) (λ k. absurd (not_low x z d i1 k)) (λ k. omega (arith, ints))
  over_frame x y z r (inr m) c d =
      let i1 = c.right in let g = at_edge r m in let x0 = west.east NM x z d in absurd (omega (arith, ints))

  -- ---- the whole

  no_old : (x y : ℤ) → ¬ on x y → ¬ Old x y
  no_old x y u h = u (old_on x y h)

  no_more : (x y : ℤ) → ¬ on x y → ¬ covered extra NM x y
  no_more x y u h = u (append_covered (shape f) extra NM x y (inr h))

  fabric_loose : (x y : ℤ) → ¬ IsTight Old 1500 x y
  fabric_loose x y t = clean 6 x y (inr (inr (inr (inr (inr (inl (refl, t)))))))

  here_x : (x : ℤ) → x +ℤ pos 0 ≡ x
  here_x x = omega (arith, ints)

  here_back : (x : ℤ) → x +ℤ neg_ℤ (pos 0) ≡ x
  here_back x = omega (arith, ints)

  in_row : (x y : ℤ) (back ahead : ℕ) → At on left x y back → At on right x y ahead
      → ((k : ℕ) → k < back → ¬ At on left x y k) → ((k : ℕ) → k < ahead → ¬ At on right x y k) → ¬ on x y
      → back + ahead ≤ 1500 → ⊥
  in_row x y zero ahead g h u v o s = o (subst (λ z. on z y) (here_back x) g)
  in_row x y (suc b) zero g h u v o s = o (subst (λ z. on z y) (here_x x) h)
  in_row x y (suc b) (suc a) g h u v o s =
      elim (covered_append (shape f) extra NM (x +ℤ neg_ℤ (pos (suc b))) y g) [
        | inl p ↦ elim (covered_append (shape f) extra NM (x +ℤ pos (suc a)) y h) [
          | inl q ↦ fabric_loose x y (inl (record {
            back = suc b;
            ahead = suc a;
            back_end = p;
            ahead_end = q;
            back_open = λ k l. no_old (x +ℤ neg_ℤ (pos k)) y (u k l);
            ahead_open = λ k l. no_old (x +ℤ pos k) y (v k l);
            open_ = no_old x y o;
            short = s;
          }))
          | inr q ↦ (let n = by_member extra NM (x +ℤ pos (suc a)) y q in
              to_frame (x +ℤ neg_ℤ (pos (suc b))) y (x +ℤ pos (suc a)) n.0 n.1 p (omega (arith, ints)) n.2)
        ]
        | inr p ↦ (let m = by_member extra NM (x +ℤ neg_ℤ (pos (suc b))) y p in
            elim (covered_append (shape f) extra NM (x +ℤ pos (suc a)) y h) [
              | inl q ↦ from_frame x y b a m.0 m.1 m.2 q (u b (omega arith)) s
              | inr q ↦ extra_loose x y (inl (record {
                back = suc b;
                ahead = suc a;
                back_end = p;
                ahead_end = q;
                back_open = λ k l. no_more (x +ℤ neg_ℤ (pos k)) y (u k l);
                ahead_open = λ k l. no_more (x +ℤ pos k) y (v k l);
                open_ = no_more x y o;
                short = s;
              }))
            ])
      ]

  in_column : (x y : ℤ) (back ahead : ℕ) → At on down x y back → At on up x y ahead
      → ((k : ℕ) → k < back → ¬ At on down x y k) → ((k : ℕ) → k < ahead → ¬ At on up x y k) → ¬ on x y
      → back + ahead ≤ 1500 → ⊥
  in_column x y back ahead g h u v o s =
      elim (covered_append (shape f) extra NM x (y +ℤ neg_ℤ (pos back)) g) [
        | inl p ↦ elim (covered_append (shape f) extra NM x (y +ℤ pos ahead) h) [
          | inl q ↦ fabric_loose x y (inr (record {
            back = back;
            ahead = ahead;
            back_end = p;
            ahead_end = q;
            back_open = λ k l. no_old x (y +ℤ neg_ℤ (pos k)) (u k l);
            ahead_open = λ k l. no_old x (y +ℤ pos k) (v k l);
            open_ = no_old x y o;
            short = s;
          }))
          | inr q ↦ (let n = by_member extra NM x (y +ℤ pos ahead) q in
              let l = over_frame x (y +ℤ pos ahead) (y +ℤ neg_ℤ (pos back)) n.0 n.1 n.2 p in omega (arith, ints))
        ]
        | inr p ↦ (let m = by_member extra NM x (y +ℤ neg_ℤ (pos back)) p in
            elim (covered_append (shape f) extra NM x (y +ℤ pos ahead) h) [
              | inl q ↦ (let l = over_frame x (y +ℤ neg_ℤ (pos back)) (y +ℤ pos ahead) m.0 m.1 m.2 q in
                  omega (arith, ints))
              | inr q ↦ extra_loose x y (inr (record {
                back = back;
                ahead = ahead;
                back_end = p;
                ahead_end = q;
                back_open = λ k l. no_more x (y +ℤ neg_ℤ (pos k)) (u k l);
                ahead_open = λ k l. no_more x (y +ℤ pos k) (v k l);
                open_ = no_more x y o;
                short = s;
              }))
            ])
      ]

  loose : (x y : ℤ) → ¬ IsTight on 1500 x y
  loose x y (inl g) = in_row x y g.back g.ahead g.back_end g.ahead_end g.back_open g.ahead_open g.open_ g.short
  loose x y (inr g) = in_column x y g.back g.ahead g.back_end g.ahead_end g.back_open g.ahead_open g.open_ g.short

  broad : (s : Rect) → Member extra s → IsBroad s
  broad s (inl e) = subst IsBroad e (record { metal = refl; wide = omega (arith, ints); high = omega (arith, ints) })
  broad s (inr m) =
      let t = (all_thick wishes framed fr s m).2 in record { metal = t.layer; wide = t.wide; high = t.high }

  whole_clean : IsClean (covered whole)
  whole_clean = clean_with_metal (shape f) extra broad clean loose

  pub pads_are_clean : IsClean (covered (shape f ++ all_of (pieces_of wishes)))
  pads_are_clean =
      subst (λ l. IsClean (covered (shape f ++ l)))
      (ap (λ l. bridge ∷ l) (sym fr.drawn) ∙ pads_drawn wishes framed fr ports.some) whole_clean

pub pads_clean : RectanglesAreJoined → FabricsFaceWest → FabricsAreClean → PadsAreClean
pads_clean joined west clean f w wishes framed fr ports =
    pads_are_clean joined f w (west f w) (clean f w) wishes framed fr ports
