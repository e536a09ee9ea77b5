-- The contact cuts of a fabric are squares of two lambda, apart from one another, and each is surrounded.
use Rattle.std.proofs.Common.{ℕ, ◌≡◌, ◌+◌, ◌*◌, ◌-◌, ◌<◌, ◌≤◌, ◌⊎◌, inl, inr, refl, sym, ◌∙◌, ap, subst, arith, Bool, true}
use Rattle.std.proofs.Common.{false, ◌&&◌, leb, eqb}
use Rattle.std.specs.Prelude.{◌↔◌, ℤ, pos, neg_ℤ, ◌+ℤ◌}
use Rattle.std.proofs.lemmas.Int.{ints}
use Rattle.std.proofs.lemmas.Bool.{and_parts, and_from, leb-true, eqb-true, cases_lt}
use Rattle.mp_base.proofs.Members.{Member}
use Rattle.lam_geom.specs.declared.layer.Layer.{Layer}
use Rattle.lam_geom.specs.declared.layer.Layer.TheVariants.{ND, NP, NC, NM, NI}
use Rattle.lam_geom.specs.declared.rect.Rect.{Rect}
use Rattle.lam_geom.specs.Chains.{Chain}
use Rattle.lam_geom.specs.Squares.{Square, ShareEdge, Adjoin, IsIn, covered, RectanglesAreJoined}
use Rattle.lam_geom.proofs.Chains.{map_chain, keep_along}
use Rattle.lam_geom.proofs.Adjoins.{adjoin_map}
use Rattle.tile_cells.specs.declared.tile.Tile.TheVariants.{TapL, TapR, Tran, PullUp, Under}
use Rattle.tile_cells.specs.Tiles.{Cell, cell, cells}
use Rattle.fabric.specs.declared.thing.Side.TheVariants.{L, R}
use Rattle.fabric.specs.Plan.{Plan, bands, rows_of, IsFabric}
use Rattle.fabric.specs.Shape.{base, shape, last_column}
use Rattle.fabric.proofs.Lying.{passing, crossing}
use Rattle.lam_geom.specs.Rules.{Way, to_x, to_y, IsInBlock, IsWhole, IsCut, cut_at, IsSquareCut, IsOddCut}
use Rattle.lam_geom.specs.Rules.{IsSurrounded, IsBareCut}
use Rattle.lam_geom.specs.Rules.Way.{right, left, up, down}
use Rattle.fabric_laws.proofs.Tile.{Thing, cells_of, raised, Here, Inside, At, Slot, Local}
use Rattle.fabric_laws.proofs.Tile.Thing.{trunk, power, ground_start, ground_on, rail, rail_end, seg, lin, mark}
use Rattle.fabric_laws.proofs.Tile.Thing.{under_rail}
use Rattle.fabric_laws.proofs.Lists.{every, every_at, some}
use Rattle.fabric_laws.proofs.Heights.{natural}
use Rattle.fabric_laws.proofs.Local.{local_of}
use Rattle.fabric_laws.proofs.Back.{drawn_at}
use Rattle.fabric_laws.proofs.Spots.{same_place, move}
use Rattle.fabric_laws.proofs.Zones.{IsRow, row_at, here_row, are_together, mark_stands, mark_at_lies, pull_up_line}
use Rattle.fabric_laws.proofs.Conductors.{all_things, all_rows, follows, at_cell, layer_is, they_meet}
use Rattle.fabric_laws.proofs.Tables.{Row, things, rows_all, every_cell, implies, together, is_layer, lies_in, meets}
use Rattle.fabric_laws.proofs.Tables.{stands_in, row_height}
use Rattle.fabric_laws.proofs.RuleTables.{edge_of, is_cut, is_below, is_alone, grown, is_cut_passes, is_below_passes}
use Rattle.fabric_laws.proofs.RuleTables.{is_alone_passes}
use Rattle.fabric_laws.proofs.Widths.{slot_in, below_top}
use Rattle.fabric_laws.proofs.Gates.{found, u_to, v_to}

-- a cut's rectangle
pub record CutCell (q : Row) (k : Cell) : Type 0 where
  pub wide : k.x1 ≡ k.x0 + 2
  pub high : k.y1 ≡ k.y0 + 2
  pub left : 1 ≤ k.x0
  pub right : k.x1 ≤ 19
  pub bottom : 1 ≤ k.y0
  pub top : k.y1 + 1 ≤ row_height q

pub cut_cell : (q : Row) (t : Thing) (k : Cell) → Member (cells_of t) k → stands_in t q ≡ true → k.layer ≡ NC → CutCell q k
cut_cell q t k m s l =
    let n = layer_is NC k l in
    let e = follows (is_layer NC k)
    (eqb k.x1 (k.x0 + 2) && (eqb k.y1 (k.y0 + 2) && (leb 1 k.x0 && (leb k.x1 19 && leb 1 k.y0))))
    (at_cell is_cut is_cut_passes t k m) n in
    let a = and_parts (eqb k.x1 (k.x0 + 2)) (eqb k.y1 (k.y0 + 2) && (leb 1 k.x0 && (leb k.x1 19 && leb 1 k.y0))) e in
    let b = and_parts (eqb k.y1 (k.y0 + 2)) (leb 1 k.x0 && (leb k.x1 19 && leb 1 k.y0)) a.1 in
    let c = and_parts (leb 1 k.x0) (leb k.x1 19 && leb 1 k.y0) b.1 in
    let d = and_parts (leb k.x1 19) (leb 1 k.y0) c.1 in
    let g = follows (stands_in t q && is_layer NC k) (leb (k.y1 + 1) (row_height q))
    (at_cell (is_below q) (every_at (λ q. every_cell (is_below q)) rows_all q is_below_passes (all_rows q)) t k m)
    (and_from _ _ s n) in
    record {
      wide = eqb-true k.x1 (k.x0 + 2) a.0;
      high = eqb-true k.y1 (k.y0 + 2) b.0;
      left = leb-true 1 k.x0 c.0;
      right = leb-true k.x1 19 d.0;
      bottom = leb-true 1 k.y0 d.1;
      top = leb-true (k.y1 + 1) (row_height q) g;
    }

-- from a place of a rectangle the next one is in it, or beside it
next_to : (z : Way) (h : Cell) (u v : ℕ) → 1 ≤ h.x0 → 1 ≤ h.y0 → Inside h u v
    → Inside h (u_to z u 1) (v_to z v 1) ⊎ Inside (edge_of z h) (u_to z u 1) (v_to z v 1)
next_to right h u v a b i =
    let i0 = i.left in let i1 = i.right in let i2 = i.bottom in let i3 = i.top in
    elim (cases_lt (u + 1) (500 * h.x1)) [
      | inl g ↦ inl (record { left = omega arith; right = g; bottom = i2; top = i3 })
      | inr g ↦ inr (record { left = omega arith; right = omega arith; bottom = i2; top = i3 })
    ]
next_to left h u v a b i =
    let i0 = i.left in let i1 = i.right in let i2 = i.bottom in let i3 = i.top in
    elim (cases_lt (500 * h.x0) u) [
      | inl g ↦ inl (record { left = omega arith; right = omega arith; bottom = i2; top = i3 })
      | inr g ↦ inr (record { left = omega arith; right = omega arith; bottom = i2; top = i3 })
    ]
next_to up h u v a b i =
    let i0 = i.left in let i1 = i.right in let i2 = i.bottom in let i3 = i.top in
    elim (cases_lt (v + 1) (500 * h.y1)) [
      | inl g ↦ inl (record { left = i0; right = i1; bottom = omega arith; top = g })
      | inr g ↦ inr (record { left = i0; right = i1; bottom = omega arith; top = omega arith })
    ]
next_to down h u v a b i =
    let i0 = i.left in let i1 = i.right in let i2 = i.bottom in let i3 = i.top in
    elim (cases_lt (500 * h.y0) v) [
      | inl g ↦ inl (record { left = i0; right = i1; bottom = omega arith; top = omega arith })
      | inr g ↦ inr (record { left = i0; right = i1; bottom = omega arith; top = omega arith })
    ]

-- squares that share an edge are next to one another in some direction
way_to : (s t : Square) → ShareEdge s t → (z : Way) × (t.x ≡ to_x z s.x 1) × (t.y ≡ to_y z s.y 1)
way_to s t (inl (e, inl g)) = (right, g, sym e)
way_to s t (inl (e, inr g)) = (left, omega (arith, ints), sym e)
way_to s t (inr (e, inl g)) = (up, sym e, g)
way_to s t (inr (e, inr g)) = (down, sym e, omega (arith, ints))

pick_way : (p : Way → Bool) → (p right && (p left && (p up && p down))) ≡ true → (z : Way) → p z ≡ true
pick_way p h right = (and_parts (p right) (p left && (p up && p down)) h).0
pick_way p h left = (and_parts (p left) (p up && p down) (and_parts (p right) (p left && (p up && p down)) h).1).0
pick_way p h up =
    (and_parts (p up) (p down)
    (and_parts (p left) (p up && p down) (and_parts (p right) (p left && (p up && p down)) h).1).1).0
pick_way p h down =
    (and_parts (p up) (p down)
    (and_parts (p left) (p up && p down) (and_parts (p right) (p left && (p up && p down)) h).1).1).1

module _ (f : Plan) (w : IsFabric f) where
  next_at : (z : Way) (h : Cell) (b r c u v : ℕ) (x y : ℤ) (q : Row) → IsRow f b r q → CutCell q h → Inside h u v
      → At f b r c u v x y → At f b r c (u_to z u 1) (v_to z v 1) (to_x z x 1) (to_y z y 1)
  next_at right h b r c u v x y q iq m i a =
      let i1 = i.right in let m1 = m.right in let a0 = a.at_x in
      record { band = a.band; slot = a.slot; at_x = omega (arith, ints); at_y = a.at_y; in_x = omega arith }
  next_at left h b r c u v x y q iq m i a =
      let i1 = i.left in let m1 = m.left in let a0 = a.at_x in let a2 = a.in_x in
      record { band = a.band; slot = a.slot; at_x = omega (arith, ints); at_y = a.at_y; in_x = omega arith }
  next_at up h b r c u v x y q iq m i a =
      let i1 = i.top in let m1 = m.top in let a0 = a.at_y in
      record {
        band = a.band;
        slot = slot_in f w b r (v + 1) q a.band iq (omega arith);
        at_x = a.at_x;
        at_y = omega (arith, ints);
        in_x = a.in_x;
      }
  next_at down h b r c u v x y q iq m i a =
      let i1 = i.bottom in let m1 = m.bottom in let a0 = a.at_y in
      let j = below_top f w b r v q a.band iq a.slot in
      record {
        band = a.band;
        slot = slot_in f w b r (v - 1) q a.band iq (omega arith);
        at_x = a.at_x;
        at_y = omega (arith, ints);
        in_x = a.in_x;
      }

  -- a place next to a cut has none
  no_cut : (z : Way) (t : Thing) (h : Cell) (b r c u v : ℕ) (x y : ℤ) → Member (cells_of t) h → h.layer ≡ NC
      → Here f b r c t → At f b r c u v x y → Inside (edge_of z h) u v → ¬ covered (shape f) NC x y
  no_cut z t h b r c u v x y mm l k a i n =
      let d = local_of f w NC x y n in
      let g = same_place f d.b d.r d.c d.u d.v b r c u v x y d.at a in
      let q = row_at f w b r v a.slot in
      let s : Here f b r c d.thing = move (λ b r c. Here f b r c d.thing) g.tile d.here in
      let j : Inside d.cell u v = subst (λ z. Inside d.cell z v) g.across
      (subst (λ z. Inside d.cell d.u z) g.up d.inside) in
      let test : Way → Bool = λ z. every (λ q. every (λ s. every
      (λ k. implies (together q t s && (is_layer NC k && meets (edge_of z h) k)) false) (cells_of s)) things) rows_all in
      let e = pick_way test (follows (is_layer NC h) (test right && (test left && (test up && test down)))
      (at_cell is_alone is_alone_passes t h mm) (layer_is NC h l)) z in
      let m = and_from _ _ (are_together f w t d.thing b r c q.0 a.band q.1 k s)
      (and_from _ _ (layer_is NC d.cell d.layer) (they_meet (edge_of z h) d.cell u v i j)) in
      let e0 = every_at (λ q. every (λ s. every
      (λ k. implies (together q t s && (is_layer NC k && meets (edge_of z h) k)) false) (cells_of s)) things)
      rows_all q.0 e (all_rows q.0) in
      let e1 = every_at (λ s. every (λ k. implies (together q.0 t s && (is_layer NC k && meets (edge_of z h) k)) false)
      (cells_of s)) things d.thing e0 (all_things d.thing) in
      let e2 = every_at (λ k. implies (together q.0 t d.thing && (is_layer NC k && meets (edge_of z h) k)) false)
      (cells_of d.thing) d.cell e1 d.among in
      let o = follows (together q.0 t d.thing && (is_layer NC d.cell && meets (edge_of z h) d.cell)) false e2 m in
      absurd (cc)

  -- ---- the cut at a square
  module _ (x y : ℤ) (k : Local f NC x y) (q : Row) (iq : IsRow f k.b k.r q) (m : CutCell q k.cell) where
    pub block_x : ℤ
    block_x = pos (10000 * k.c + 500 * k.cell.x0)

    pub block_y : ℤ
    block_y = pos (500 * base f k.b + 6000 * k.r + 500 * k.cell.y0)

    record Placed (p : Cell) (x2 y2 : ℤ) : Type 0 where
      u : ℕ
      v : ℕ
      at : At f k.b k.r k.c u v x2 y2
      inside : Inside p u v

    -- squares of a rectangle in the tile
    placed : (p : Cell) (a b : ℤ) (side : ℕ) → a ≡ pos (10000 * k.c + 500 * p.x0)
        → b ≡ pos (500 * base f k.b + 6000 * k.r + 500 * p.y0) → 500 * p.x1 ≡ 500 * p.x0 + side
        → 500 * p.y1 ≡ 500 * p.y0 + side → p.x1 ≤ 20 → p.y1 ≤ row_height q → (x2 y2 : ℤ)
        → IsInBlock a b side x2 y2 → Placed p x2 y2
    placed p a b side ea eb ew eh ex ey x2 y2 i =
        let i0 = i.left in let i1 = i.right in let i2 = i.bottom in let i3 = i.top in
        let n = natural x2 (10000 * k.c + 500 * p.x0) (omega (arith, ints)) in
        let o = natural y2 (500 * base f k.b + 6000 * k.r + 500 * p.y0) (omega (arith, ints)) in
        let n1 = n.1 in let n2 = n.2 in let o1 = o.1 in let o2 = o.2 in
        record {
          u = n.0 - 10000 * k.c;
          v = o.0 - (500 * base f k.b + 6000 * k.r);
          at = record {
            band = k.at.band;
            slot = slot_in f w k.b k.r (o.0 - (500 * base f k.b + 6000 * k.r)) q k.at.band iq (omega (arith, ints));
            at_x = omega (arith, ints);
            at_y = omega (arith, ints);
            in_x = omega (arith, ints);
          };
          inside = record {
            left = omega (arith, ints);
            right = omega (arith, ints);
            bottom = omega (arith, ints);
            top = omega (arith, ints);
          };
        }

    in_block : (x2 y2 : ℤ) (u v : ℕ) → At f k.b k.r k.c u v x2 y2 → Inside k.cell u v
        → IsInBlock block_x block_y 1000 x2 y2
    unfolding block_x block_y
    in_block x2 y2 u v a i =
        let i0 = i.left in let i1 = i.right in let i2 = i.bottom in let i3 = i.top in
        let a0 = a.at_x in let a1 = a.at_y in let m0 = m.wide in let m1 = m.high in
        record {
          left = omega (arith, ints);
          right = omega (arith, ints);
          bottom = omega (arith, ints);
          top = omega (arith, ints);
        }

    own : (x2 y2 : ℤ) → IsInBlock block_x block_y 1000 x2 y2 → Placed k.cell x2 y2
    unfolding block_x block_y
    own x2 y2 i =
        let m0 = m.wide in let m1 = m.high in let m2 = m.right in let m3 = m.top in
        placed k.cell (pos (10000 * k.c + 500 * k.cell.x0)) (pos (500 * base f k.b + 6000 * k.r + 500 * k.cell.y0)) 1000
        refl refl (omega arith) (omega arith) (omega arith) (omega arith) x2 y2 i

    own_covered : (x2 y2 : ℤ) → IsInBlock block_x block_y 1000 x2 y2 → covered (shape f) NC x2 y2
    own_covered x2 y2 i =
        let o = own x2 y2 i in
        subst (λ n. covered (shape f) n x2 y2) k.layer
        (drawn_at f w k.thing k.cell k.b k.r k.c o.u o.v x2 y2 k.among k.here o.at o.inside)

    step : (s t : Square) → Adjoin (IsCut (covered (shape f))) s t → IsInBlock block_x block_y 1000 s.x s.y
        → IsInBlock block_x block_y 1000 t.x t.y
    step s t j i =
        let o = own s.x s.y i in
        let z = way_to s t j.beside in
        let a = next_at z.0 k.cell k.b k.r k.c o.u o.v s.x s.y q iq m o.inside o.at in
        let a2 : At f k.b k.r k.c (u_to z.0 o.u 1) (v_to z.0 o.v 1) t.x t.y =
        subst (λ n. At f k.b k.r k.c (u_to z.0 o.u 1) (v_to z.0 o.v 1) n t.y) (sym z.1)
        (subst (λ n. At f k.b k.r k.c (u_to z.0 o.u 1) (v_to z.0 o.v 1) (to_x z.0 s.x 1) n) (sym z.2) a) in
        elim (next_to z.0 k.cell o.u o.v m.left m.bottom o.inside) [
          | inl g ↦ in_block t.x t.y (u_to z.0 o.u 1) (v_to z.0 o.v 1) a2 g
          | inr g ↦ absurd (no_cut z.0 k.thing k.cell k.b k.r k.c (u_to z.0 o.u 1) (v_to z.0 o.v 1) t.x t.y k.among
              k.layer k.here a2 g j.to.1)
        ]

    block_rect : Rect
    block_rect = record {
      layer = NC;
      x0 = block_x;
      y0 = block_y;
      x1 = block_x +ℤ pos 1000;
      y1 = block_y +ℤ pos 1000;
    }

    pub is_square : RectanglesAreJoined → IsSquareCut (covered (shape f)) x y block_x block_y
    unfolding block_rect
    is_square joined p o = (
      λ h. keep_along (λ s. IsInBlock block_x block_y 1000 s.x s.y) step h.1 (in_block x y k.u k.v k.at k.inside),
      λ i.
          let z = in_block x y k.u k.v k.at k.inside in (
            (refl, own_covered p o i),
            map_chain (adjoin_map (IsIn block_rect) (IsCut (covered (shape f)))
                (λ s g. (
                  sym g.same,
                  own_covered s.x s.y (record {
                    left = g.left;
                    right = g.right;
                    bottom = g.bottom;
                    top = g.top;
                  }),
                )))
                (joined block_rect (cut_at x y) (cut_at p o)
                (record { same = refl; left = z.left; right = z.right; bottom = z.bottom; top = z.top })
                (record { same = refl; left = i.left; right = i.right; bottom = i.bottom; top = i.top })),
          ),
    )

    -- what a test finds around the cut is drawn
    pub whole_by : (l : Layer) (t : Thing) → Here f k.b k.r k.c t
        → some (λ c. is_layer l c && lies_in (grown k.cell) c) (cells_of t) ≡ true
        → IsWhole (covered (shape f) l) (block_x +ℤ neg_ℤ (pos 500)) (block_y +ℤ neg_ℤ (pos 500)) 2000
    unfolding block_x block_y
    whole_by l t h e x2 y2 i =
        let m0 = m.wide in let m1 = m.high in let m2 = m.right in let m3 = m.top in let m4 = m.left in
        let m5 = m.bottom in
        let o = placed (grown k.cell) (pos (10000 * k.c + 500 * k.cell.x0) +ℤ neg_ℤ (pos 500))
        (pos (500 * base f k.b + 6000 * k.r + 500 * k.cell.y0) +ℤ neg_ℤ (pos 500)) 2000
        (omega (arith, ints)) (omega (arith, ints)) (omega arith) (omega arith) (omega arith) (omega arith) x2 y2 i in
        found f w l t (grown k.cell) k.b k.r k.c o.u o.v x2 y2 e h o.at o.inside

  pub cuts_are_square : RectanglesAreJoined → (x y : ℤ) → ¬ IsOddCut (covered (shape f)) x y
  cuts_are_square joined x y h =
      let k = local_of f w NC x y h.here in
      let q = row_at f w k.b k.r k.v k.at.slot in
      let m = cut_cell q.0 k.thing k.cell k.among (here_row f w k.thing k.b k.r k.c q.0 k.at.band k.here q.1) k.layer in
      h.odd (block_x x y k q.0 q.1 m) (block_y x y k q.0 q.1 m) (is_square x y k q.0 q.1 m joined)
