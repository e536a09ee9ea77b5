-- The conductors of a mark are joined with those of its nets.
use Rattle.std.proofs.Common.{ℕ, ◌≡◌, ◌+◌, ◌*◌, ◌-◌, ◌<◌, ◌≤◌, ◌⊎◌, inl, inr, refl, sym, subst, arith, Contains}
use Rattle.std.specs.Prelude.{ℤ, pos, ◌+ℤ◌}
use Rattle.std.proofs.lemmas.Int.{ints}
use Rattle.mp_base.proofs.Members.{Member}
use Rattle.lam_geom.specs.declared.layer.Layer.{Layer}
use Rattle.lam_geom.specs.declared.layer.Layer.TheVariants.{ND, NP, NC, NM}
use Rattle.lam_geom.specs.declared.rect.Rect.{Rect}
use Rattle.lam_geom.specs.Squares.{Square, IsIn, covered, RectanglesAreJoined}
use Rattle.lam_geom.specs.Chains.{Chain}
use Rattle.lam_geom.specs.Chains.Chain.{link}
use Rattle.switch_net.specs.Conductors.{Conducts}
use Rattle.switch_net.specs.Conductors.Joined.{beside, contact}
use Rattle.tile_cells.specs.declared.tile.Tile.TheVariants.{Tran, PullUp, Under}
use Rattle.tile_cells.specs.Tiles.{Cell, cell}
use Rattle.fabric.specs.declared.thing.Side.TheVariants.{L, R}
use Rattle.fabric.specs.declared.thing.Segment.{Segment}
use Rattle.fabric.specs.Plan.{Plan, bands, rows_of, Crosses, LineAt, IsFabric, Stands}
use Rattle.fabric.specs.Shape.{base, last_column, shape}
use Rattle.fabric.specs.Switches.Net.{segment, line, power as the_power}
use Rattle.fabric_laws.proofs.Tile.{Thing, cells_of, Here, Inside, Slot}
use Rattle.fabric_laws.proofs.Tile.Thing.{rail, seg, lin, mark, under_rail}
use Rattle.fabric_laws.proofs.Heights.{natural}
use Rattle.fabric.proofs.Lying.{some_rows, crossing, passing, segment_lies}
use Rattle.fabric_laws.proofs.Back.{drawn_at}
use Rattle.fabric_laws.proofs.Zones.{mark_stands, pull_up_line}
use Rattle.fabric_laws.proofs.Owners.{owner_conducts}
use Rattle.lam_geom.proofs.Chains.{join_chains}
use Rattle.switch_net.proofs.Joins.{join_flip}
use Rattle.fabric_laws.proofs.Together.{square, spot, J, Reached, in_rectangle, owner_at, reach_rail, reach_segment}
use Rattle.fabric_laws.proofs.Together.{reach_line}
use Rattle.fabric_laws.proofs.Tables.{Part, part, parts}
use Rattle.fabric_laws.proofs.Tables.Kind.{of_power, of_segment, of_line}

pub inside : (c : Cell) (u v : ℕ) → (500 * c.x0 ≤ u) × (u < 500 * c.x1) × (500 * c.y0 ≤ v) × (v < 500 * c.y1)
    → Inside c u v
inside c u v h = record { left = h.0; right = h.1; bottom = h.2; top = h.3 }

module _ (joined : RectanglesAreJoined) (f : Plan) (w : IsFabric f) where
  -- the rectangle of a conductor in its tile
  abbrev part_rect : Part → ℕ → ℕ → ℕ → Rect
  part_rect p b r c = record {
    layer = p.cell.layer;
    x0 = pos (10000 * c + 500 * p.cell.x0);
    y0 = pos (500 * base f b + 6000 * r + 500 * p.cell.y0);
    x1 = pos (10000 * c + 500 * p.cell.x1);
    y1 = pos (500 * base f b + 6000 * r + 500 * p.cell.y1);
  }

  part_conducts : (t : Thing) (p : Part) (b r c : ℕ) → b < bands f → Here f b r c t → Member (parts t) p
      → p.cell.x1 ≤ 20 → (r < rows_of f b) × (p.cell.y1 ≤ 12) ⊎ (r ≡ rows_of f b) × (p.cell.y1 ≤ 36)
      → (s : Square) → IsIn (part_rect p b r c) s → Conducts (covered (shape f)) s
  part_conducts t p b r c hb h m wide high s i =
      let a = natural s.x (10000 * c + 500 * p.cell.x0) i.left in
      let d = natural s.y (500 * base f b + 6000 * r + 500 * p.cell.y0) i.bottom in
      let e0 = i.right in let e1 = i.top in let e2 = a.1 in let e3 = d.1 in let e4 = a.2 in let e5 = d.2 in
      let u : ℕ = a.0 - 10000 * c in
      let v : ℕ = d.0 - 500 * base f b - 6000 * r in
      let slot : Slot f b r v = elim high [
        | inl g ↦ (let g0 = g.0 in let g1 = g.1 in inl (g0, omega (arith, ints)))
        | inr g ↦ (let g0 = g.0 in let g1 = g.1 in inr (g0, omega (arith, ints)))
      ] in
      owner_conducts f w s.layer s.x s.y (record {
        b = b;
        r = r;
        c = c;
        u = u;
        v = v;
        at = record {
          band = hb;
          slot = slot;
          at_x = omega (arith, ints);
          at_y = omega (arith, ints);
          in_x = omega (arith, ints);
        };
        thing = t;
        here = h;
        part = p;
        among = m;
        layer = i.same;
        inside = record {
          left = omega (arith, ints);
          right = omega (arith, ints);
          bottom = omega (arith, ints);
          top = omega (arith, ints);
        };
      })

  -- two places of one conductor are joined
  within : (t : Thing) (p : Part) (b r c : ℕ) → b < bands f → Here f b r c t → Member (parts t) p → p.cell.x1 ≤ 20
      → (r < rows_of f b) × (p.cell.y1 ≤ 12) ⊎ (r ≡ rows_of f b) × (p.cell.y1 ≤ 36)
      → (u v u2 v2 : ℕ) → Inside p.cell u v → Inside p.cell u2 v2
      → Chain (J joined f w) (spot f b r c p.cell.layer u v) (spot f b r c p.cell.layer u2 v2)
  within t p b r c hb h m wide high u v u2 v2 i j =
      let i0 = i.left in let i1 = i.right in let i2 = i.bottom in let i3 = i.top in
      let j0 = j.left in let j1 = j.right in let j2 = j.bottom in let j3 = j.top in
      in_rectangle joined f w (part_rect p b r c) (part_conducts t p b r c hb h m wide high)
      (spot f b r c p.cell.layer u v) (spot f b r c p.cell.layer u2 v2)
      (record {
        same = refl;
        left = omega (arith, ints);
        right = omega (arith, ints);
        bottom = omega (arith, ints);
        top = omega (arith, ints);
      })
      (record {
        same = refl;
        left = omega (arith, ints);
        right = omega (arith, ints);
        bottom = omega (arith, ints);
        top = omega (arith, ints);
      })

  -- two conductors under one cut are joined
  pub by_cut : (l l2 : Layer) (v : Thing) (k : Cell) (b r c x y : ℕ) → b < bands f → Slot f b r y → x < 10000
      → Here f b r c v → Member (cells_of v) k → k.layer ≡ NC → Inside k x y
      → Conducts (covered (shape f)) (spot f b r c l x y) → Conducts (covered (shape f)) (spot f b r c l2 x y)
      → J joined f w (spot f b r c l x y) (spot f b r c l2 x y)
  by_cut l l2 v k b r c x y hb s hx h m e i a d = contact (record {
    from = a;
    to = d;
    x = refl;
    y = refl;
    by = inl (subst (λ z. covered (shape f) z (pos (10000 * c + x)) (pos (500 * base f b + 6000 * r + y))) e
        (drawn_at f w v k b r c x y (pos (10000 * c + x)) (pos (500 * base f b + 6000 * r + y)) m h
        (record { band = hb; slot = s; at_x = refl; at_y = refl; in_x = hx }) i));
  })

  to_the_right : (l : Layer) (x y x2 y2 : ℤ) → y ≡ y2 → x2 ≡ x +ℤ pos 1 → Conducts (covered (shape f)) (square l x y)
      → Conducts (covered (shape f)) (square l x2 y2) → J joined f w (square l x y) (square l x2 y2)
  to_the_right l x y x2 y2 e g a d = beside (record { from = a; to = d; same = refl; beside = inl (e, inl g) })

  to_the_top : (l : Layer) (x y x2 y2 : ℤ) → x ≡ x2 → y2 ≡ y +ℤ pos 1 → Conducts (covered (shape f)) (square l x y)
      → Conducts (covered (shape f)) (square l x2 y2) → J joined f w (square l x y) (square l x2 y2)
  to_the_top l x y x2 y2 e g a d = beside (record { from = a; to = d; same = refl; beside = inr (e, inl g) })

  flip : {s t : Square} → J joined f w s t → J joined f w t s
  flip {s} {t} j = join_flip (covered (shape f)) s t j

  -- ---- Tran
  module _ (b r c : ℕ) (h : Here f b r c (mark Tran)) where
    abbrev stand : Stands f Tran b r c
    stand = mark_stands f w Tran b r c h.0

    abbrev low : (b < bands f) × (r < rows_of f b)
    low = let i = crossing f w b r c stand.2 in (i.band, i.row)

    slot_ : (v : ℕ) → v < 6000 → Slot f b r v
    slot_ v g = inl (low.1, g)

    pub gate_high : (u v : ℕ) → Inside (cell NP 8 6 12 10) u v → Reached joined f w (segment stand.2.segment)
        (spot f b r c NP u v)
    gate_high u v i =
        let a = owner_at joined f w seg (part of_segment NM 0 6 20 10) b r c 4500 3500 low.0 (slot_ 3500 (omega arith))
        (omega arith) stand.2 (inl refl) (inside _ 4500 3500 (omega arith, omega arith, omega arith, omega arith))
        in
        let d = owner_at joined f w (mark Tran) (part of_segment NP 8 6 12 10) b r c 4500 3500 low.0
        (slot_ 3500 (omega arith)) (omega arith) h (inr (inr (inr (inl refl))))
        (inside _ 4500 3500 (omega arith, omega arith, omega arith, omega arith)) in
        join_chains (reach_segment joined f w stand.2.segment stand.2.among b r c 4500 3500 stand.2.crosses
        (omega arith) (omega arith) (omega arith))
        (link (by_cut NM NP (mark Tran) (cell NC 9 7 11 9) b r c 4500 3500 low.0 (slot_ 3500 (omega arith))
        (omega arith) h (inr (inr (inr (inl refl)))) refl
        (inside _ 4500 3500 (omega arith, omega arith, omega arith, omega arith)) a d)
        (within (mark Tran) (part of_segment NP 8 6 12 10) b r c low.0 h (inr (inr (inr (inl refl)))) (omega arith)
        (inl (low.1, omega arith)) 4500 3500 u v
        (inside _ 4500 3500 (omega arith, omega arith, omega arith, omega arith)) i))

    pub gate_low : (u v : ℕ) → Inside (cell NP 9 0 11 6) u v → Reached joined f w (segment stand.2.segment)
        (spot f b r c NP u v)
    gate_low u v i =
        let a = owner_at joined f w (mark Tran) (part of_segment NP 9 0 11 6) b r c 4500 2999 low.0
        (slot_ 2999 (omega arith)) (omega arith) h (inr (inr (inl refl)))
        (inside _ 4500 2999 (omega arith, omega arith, omega arith, omega arith)) in
        let d = owner_at joined f w (mark Tran) (part of_segment NP 8 6 12 10) b r c 4500 3000 low.0
        (slot_ 3000 (omega arith)) (omega arith) h (inr (inr (inr (inl refl))))
        (inside _ 4500 3000 (omega arith, omega arith, omega arith, omega arith)) in
        join_chains (gate_high 4500 3000 (inside _ 4500 3000 (omega arith, omega arith, omega arith, omega arith)))
        (link (flip (to_the_top NP (pos (10000 * c + 4500)) (pos (500 * base f b + 6000 * r + 2999))
        (pos (10000 * c + 4500)) (pos (500 * base f b + 6000 * r + 3000)) refl (omega (arith, ints)) a d))
        (within (mark Tran) (part of_segment NP 9 0 11 6) b r c low.0 h (inr (inr (inl refl))) (omega arith)
        (inl (low.1, omega arith)) 4500 2999 u v
        (inside _ 4500 2999 (omega arith, omega arith, omega arith, omega arith)) i))

    pub stub_left : (u v : ℕ) → Inside (cell ND 6 2 9 4) u v → Reached joined f w (line stand.0.line)
        (spot f b r c ND u v)
    stub_left u v i =
        let n = stand.0 in
        let a = owner_at joined f w (lin L) (part (of_line L) ND 2 0 6 36) b r c 2999 1000 low.0
        (slot_ 1000 (omega arith)) (omega arith) (n.line, n.among, n.passes, inl low.1) (inl refl)
        (inside _ 2999 1000 (omega arith, omega arith, omega arith, omega arith)) in
        let d = owner_at joined f w (mark Tran) (part (of_line L) ND 6 2 9 4) b r c 3000 1000 low.0
        (slot_ 1000 (omega arith)) (omega arith) h (inl refl)
        (inside _ 3000 1000 (omega arith, omega arith, omega arith, omega arith)) in
        join_chains (reach_line joined f w n.line n.among L b r c 2999 1000 n.passes (inl low.1)
        (slot_ 1000 (omega arith)) (omega arith) (omega arith))
        (link (to_the_right ND (pos (10000 * c + 2999)) (pos (500 * base f b + 6000 * r + 1000))
        (pos (10000 * c + 3000)) (pos (500 * base f b + 6000 * r + 1000)) refl (omega (arith, ints)) a d)
        (within (mark Tran) (part (of_line L) ND 6 2 9 4) b r c low.0 h (inl refl) (omega arith)
        (inl (low.1, omega arith)) 3000 1000 u v
        (inside _ 3000 1000 (omega arith, omega arith, omega arith, omega arith)) i))

    pub stub_right : (u v : ℕ) → Inside (cell ND 11 2 14 4) u v
        → Reached joined f w (line stand.1.line) (spot f b r c ND u v)
    stub_right u v i =
        let n = stand.1 in
        let a = owner_at joined f w (lin R) (part (of_line R) ND 14 0 18 36) b r c 7000 1000 low.0
        (slot_ 1000 (omega arith)) (omega arith) (n.line, n.among, n.passes, inl low.1) (inl refl)
        (inside _ 7000 1000 (omega arith, omega arith, omega arith, omega arith)) in
        let d = owner_at joined f w (mark Tran) (part (of_line R) ND 11 2 14 4) b r c 6999 1000 low.0
        (slot_ 1000 (omega arith)) (omega arith) h (inr (inl refl))
        (inside _ 6999 1000 (omega arith, omega arith, omega arith, omega arith)) in
        join_chains (reach_line joined f w n.line n.among R b r c 7000 1000 n.passes (inl low.1)
        (slot_ 1000 (omega arith)) (omega arith) (omega arith))
        (link (flip (to_the_right ND (pos (10000 * c + 6999)) (pos (500 * base f b + 6000 * r + 1000))
        (pos (10000 * c + 7000)) (pos (500 * base f b + 6000 * r + 1000)) refl (omega (arith, ints)) d a))
        (within (mark Tran) (part (of_line R) ND 11 2 14 4) b r c low.0 h (inr (inl refl)) (omega arith)
        (inl (low.1, omega arith)) 6999 1000 u v
        (inside _ 6999 1000 (omega arith, omega arith, omega arith, omega arith)) i))

  -- ---- PullUp
  module _ (b r c : ℕ) (h : Here f b r c (mark PullUp)) where
    at_top : r ≡ rows_of f b
    at_top = (mark_stands f w PullUp b r c h.0).0

    abbrev pulled : LineAt f L b c
    pulled = pull_up_line f w b r c h.0

    band_ : b < bands f
    band_ = (passing f w pulled.line L b c pulled.among pulled.passes).band

    columns_ : (1 ≤ c) × (c < last_column f)
    columns_ = let i = passing f w pulled.line L b c pulled.among pulled.passes in (i.left, i.right)

    slot_up : (v : ℕ) → v < 18000 → Slot f b r v
    slot_up v g = inr (at_top, g)

    pub foot : (u v : ℕ) → Inside (cell ND 2 0 6 6) u v → Reached joined f w (line pulled.line) (spot f b r c ND u v)
    foot u v i =
        let n = some_rows f w b band_ in
        let e = at_top in
        let low : Slot f b (r - 1) 5999 = inl (omega arith, omega arith) in
        let a = owner_at joined f w (lin L) (part (of_line L) ND 2 0 6 36) b (r - 1) c 1000 5999 band_ low (omega arith)
        (pulled.line, pulled.among, pulled.passes, inl (omega arith)) (inl refl)
        (inside _ 1000 5999 (omega arith, omega arith, omega arith, omega arith)) in
        let d = owner_at joined f w (mark PullUp) (part (of_line L) ND 2 0 6 6) b r c 1000 0 band_
        (slot_up 0 (omega arith)) (omega arith) h (inl refl)
        (inside _ 1000 0 (omega arith, omega arith, omega arith, omega arith)) in
        join_chains (reach_line joined f w pulled.line pulled.among L b (r - 1) c 1000 5999 pulled.passes
        (inl (omega arith)) low (omega arith) (omega arith))
        (link (to_the_top ND (pos (10000 * c + 1000)) (pos (500 * base f b + 6000 * (r - 1) + 5999))
        (pos (10000 * c + 1000)) (pos (500 * base f b + 6000 * r + 0)) refl (omega (arith, ints)) a d)
        (within (mark PullUp) (part (of_line L) ND 2 0 6 6) b r c band_ h (inl refl) (omega arith)
        (inr (at_top, omega arith)) 1000 0 u v (inside _ 1000 0 (omega arith, omega arith, omega arith, omega arith))
        i))

    pub plate : (u v : ℕ) → Inside (cell NM 2 2 12 6) u v → Reached joined f w (line pulled.line) (spot f b r c NM u v)
    plate u v i =
        let a = owner_at joined f w (mark PullUp) (part (of_line L) ND 2 0 6 6) b r c 1500 1500 band_
        (slot_up 1500 (omega arith)) (omega arith) h (inl refl)
        (inside _ 1500 1500 (omega arith, omega arith, omega arith, omega arith)) in
        let d = owner_at joined f w (mark PullUp) (part (of_line L) NM 2 2 12 6) b r c 1500 1500 band_
        (slot_up 1500 (omega arith)) (omega arith) h (inr (inl refl))
        (inside _ 1500 1500 (omega arith, omega arith, omega arith, omega arith)) in
        join_chains (foot 1500 1500 (inside _ 1500 1500 (omega arith, omega arith, omega arith, omega arith)))
        (link (by_cut ND NM (mark PullUp) (cell NC 3 3 5 5) b r c 1500 1500 band_ (slot_up 1500 (omega arith))
        (omega arith) h (inr (inl refl)) refl
        (inside _ 1500 1500 (omega arith, omega arith, omega arith, omega arith)) a d)
        (within (mark PullUp) (part (of_line L) NM 2 2 12 6) b r c band_ h (inr (inl refl)) (omega arith)
        (inr (at_top, omega arith)) 1500 1500 u v
        (inside _ 1500 1500 (omega arith, omega arith, omega arith, omega arith)) i))

    pub neck : (u v : ℕ) → Inside (cell NP 8 2 12 8) u v → Reached joined f w (line pulled.line) (spot f b r c NP u v)
    neck u v i =
        let a = owner_at joined f w (mark PullUp) (part (of_line L) NM 2 2 12 6) b r c 4500 1500 band_
        (slot_up 1500 (omega arith)) (omega arith) h (inr (inl refl))
        (inside _ 4500 1500 (omega arith, omega arith, omega arith, omega arith)) in
        let d = owner_at joined f w (mark PullUp) (part (of_line L) NP 8 2 12 8) b r c 4500 1500 band_
        (slot_up 1500 (omega arith)) (omega arith) h (inr (inr (inl refl)))
        (inside _ 4500 1500 (omega arith, omega arith, omega arith, omega arith)) in
        join_chains (plate 4500 1500 (inside _ 4500 1500 (omega arith, omega arith, omega arith, omega arith)))
        (link (by_cut NM NP (mark PullUp) (cell NC 9 3 11 5) b r c 4500 1500 band_ (slot_up 1500 (omega arith))
        (omega arith) h (inr (inr (inr (inr (inl refl))))) refl
        (inside _ 4500 1500 (omega arith, omega arith, omega arith, omega arith)) a d)
        (within (mark PullUp) (part (of_line L) NP 8 2 12 8) b r c band_ h (inr (inr (inl refl))) (omega arith)
        (inr (at_top, omega arith)) 4500 1500 u v
        (inside _ 4500 1500 (omega arith, omega arith, omega arith, omega arith)) i))

    pub gate : (u v : ℕ) → Inside (cell NP 1 8 12 24) u v → Reached joined f w (line pulled.line) (spot f b r c NP u v)
    gate u v i =
        let a = owner_at joined f w (mark PullUp) (part (of_line L) NP 8 2 12 8) b r c 4500 3999 band_
        (slot_up 3999 (omega arith)) (omega arith) h (inr (inr (inl refl)))
        (inside _ 4500 3999 (omega arith, omega arith, omega arith, omega arith)) in
        let d = owner_at joined f w (mark PullUp) (part (of_line L) NP 1 8 12 24) b r c 4500 4000 band_
        (slot_up 4000 (omega arith)) (omega arith) h (inr (inr (inr (inl refl))))
        (inside _ 4500 4000 (omega arith, omega arith, omega arith, omega arith)) in
        join_chains (neck 4500 3999 (inside _ 4500 3999 (omega arith, omega arith, omega arith, omega arith)))
        (link (to_the_top NP (pos (10000 * c + 4500)) (pos (500 * base f b + 6000 * r + 3999)) (pos (10000 * c + 4500))
        (pos (500 * base f b + 6000 * r + 4000)) refl (omega (arith, ints)) a d)
        (within (mark PullUp) (part (of_line L) NP 1 8 12 24) b r c band_ h (inr (inr (inr (inl refl)))) (omega arith)
        (inr (at_top, omega arith)) 4500 4000 u v
        (inside _ 4500 4000 (omega arith, omega arith, omega arith, omega arith)) i))

    pub low_end : (u v : ℕ) → Inside (cell ND 3 6 5 8) u v → Reached joined f w (line pulled.line) (spot f b r c ND u v)
    low_end u v i =
        let a = owner_at joined f w (mark PullUp) (part (of_line L) ND 2 0 6 6) b r c 1500 2999 band_
        (slot_up 2999 (omega arith)) (omega arith) h (inl refl)
        (inside _ 1500 2999 (omega arith, omega arith, omega arith, omega arith)) in
        let d = owner_at joined f w (mark PullUp) (part (of_line L) ND 3 6 5 8) b r c 1500 3000 band_
        (slot_up 3000 (omega arith)) (omega arith) h (inr (inr (inr (inr (inl refl)))))
        (inside _ 1500 3000 (omega arith, omega arith, omega arith, omega arith)) in
        join_chains (foot 1500 2999 (inside _ 1500 2999 (omega arith, omega arith, omega arith, omega arith)))
        (link (to_the_top ND (pos (10000 * c + 1500)) (pos (500 * base f b + 6000 * r + 2999)) (pos (10000 * c + 1500))
        (pos (500 * base f b + 6000 * r + 3000)) refl (omega (arith, ints)) a d)
        (within (mark PullUp) (part (of_line L) ND 3 6 5 8) b r c band_ h (inr (inr (inr (inr (inl refl)))))
        (omega arith) (inr (at_top, omega arith)) 1500 3000 u v
        (inside _ 1500 3000 (omega arith, omega arith, omega arith, omega arith)) i))

    pub head : (u v : ℕ) → Inside (cell ND 2 27 6 31) u v → Reached joined f w (the_power) (spot f b r c ND u v)
    head u v i =
        let a = owner_at joined f w rail (part of_power NM 0 27 20 31) b r c 1500 14000 band_
        (slot_up 14000 (omega arith)) (omega arith) (columns_.0, columns_.1, at_top) (inl refl)
        (inside _ 1500 14000 (omega arith, omega arith, omega arith, omega arith)) in
        let d = owner_at joined f w (mark PullUp) (part of_power ND 2 27 6 31) b r c 1500 14000 band_
        (slot_up 14000 (omega arith)) (omega arith) h (inr (inr (inr (inr (inr (inr (inl refl)))))))
        (inside _ 1500 14000 (omega arith, omega arith, omega arith, omega arith)) in
        let o = columns_.1 in
        join_chains (subst (λ z. Reached joined f w the_power (spot f b z c NM 1500 14000)) (sym at_top)
        (reach_rail joined f w b c 1500 14000 band_ columns_.0 (omega arith) (omega arith) (omega arith)))
        (link (by_cut NM ND (mark PullUp) (cell NC 3 28 5 30) b r c 1500 14000 band_ (slot_up 14000 (omega arith))
        (omega arith) h (inr (inr (inr (inr (inr (inr (inr (inr (inl refl))))))))) refl
        (inside _ 1500 14000 (omega arith, omega arith, omega arith, omega arith)) a d)
        (within (mark PullUp) (part of_power ND 2 27 6 31) b r c band_ h (inr (inr (inr (inr (inr (inr (inl refl)))))))
        (omega arith) (inr (at_top, omega arith)) 1500 14000 u v
        (inside _ 1500 14000 (omega arith, omega arith, omega arith, omega arith)) i))

    pub high_end : (u v : ℕ) → Inside (cell ND 3 24 5 27) u v → Reached joined f w (the_power) (spot f b r c ND u v)
    high_end u v i =
        let a = owner_at joined f w (mark PullUp) (part of_power ND 2 27 6 31) b r c 1500 13500 band_
        (slot_up 13500 (omega arith)) (omega arith) h (inr (inr (inr (inr (inr (inr (inl refl)))))))
        (inside _ 1500 13500 (omega arith, omega arith, omega arith, omega arith)) in
        let d = owner_at joined f w (mark PullUp) (part of_power ND 3 24 5 27) b r c 1500 13499 band_
        (slot_up 13499 (omega arith)) (omega arith) h (inr (inr (inr (inr (inr (inl refl))))))
        (inside _ 1500 13499 (omega arith, omega arith, omega arith, omega arith)) in
        join_chains (head 1500 13500 (inside _ 1500 13500 (omega arith, omega arith, omega arith, omega arith)))
        (link (flip (to_the_top ND (pos (10000 * c + 1500)) (pos (500 * base f b + 6000 * r + 13499))
        (pos (10000 * c + 1500)) (pos (500 * base f b + 6000 * r + 13500)) refl (omega (arith, ints)) d a))
        (within (mark PullUp) (part of_power ND 3 24 5 27) b r c band_ h (inr (inr (inr (inr (inr (inl refl))))))
        (omega arith) (inr (at_top, omega arith)) 1500 13499 u v
        (inside _ 1500 13499 (omega arith, omega arith, omega arith, omega arith)) i))

  -- ---- Under, in a signal row: from the segment that begins in column 1
  module _ (b r c : ℕ) (h : Here f b r c (mark Under)) (s : Segment) (ms : Contains f.segments s) (at_west : c ≡ 0)
      (eb : s.band ≡ b) (er : s.row ≡ r) (first : s.first ≡ 1) where
    low_row : (b < bands f) × (r < rows_of f b)
    low_row = ((mark_stands f w Under b r c h.0).1, h.1 refl)

    slot_low : (v : ℕ) → v < 6000 → Slot f b r v
    slot_low v g = inl (low_row.1, g)

    next_crosses : Crosses s b r 1
    next_crosses = let i = (segment_lies f w s ms).order in
        record { band = eb; row = er; first = omega arith; last = omega arith }

    pub under_right : (u v : ℕ) → Inside (cell NM 16 6 20 10) u v → Reached joined f w (segment s) (spot f b r c NM u v)
    under_right u v i =
        let e = at_west in
        let a = owner_at joined f w seg (part of_segment NM 0 6 20 10) b r 1 0 3500 low_row.0
        (slot_low 3500 (omega arith)) (omega arith) (record { segment = s; among = ms; crosses = next_crosses })
        (inl refl) (inside _ 0 3500 (omega arith, omega arith, omega arith, omega arith)) in
        let d = owner_at joined f w (mark Under) (part of_segment NM 16 6 20 10) b r c 9999 3500 low_row.0
        (slot_low 3500 (omega arith)) (omega arith) h (inr (inl refl))
        (inside _ 9999 3500 (omega arith, omega arith, omega arith, omega arith)) in
        join_chains (reach_segment joined f w s ms b r 1 0 3500 next_crosses (omega arith) (omega arith) (omega arith))
        (link (flip (to_the_right NM (pos (10000 * c + 9999)) (pos (500 * base f b + 6000 * r + 3500))
        (pos (10000 * 1 + 0)) (pos (500 * base f b + 6000 * r + 3500)) refl (omega (arith, ints)) d a))
        (within (mark Under) (part of_segment NM 16 6 20 10) b r c low_row.0 h (inr (inl refl)) (omega arith)
        (inl (low_row.1, omega arith)) 9999 3500 u v
        (inside _ 9999 3500 (omega arith, omega arith, omega arith, omega arith)) i))

    pub under_bar : (u v : ℕ) → Inside (cell NP 0 6 20 10) u v → Reached joined f w (segment s) (spot f b r c NP u v)
    under_bar u v i =
        let a = owner_at joined f w (mark Under) (part of_segment NM 16 6 20 10) b r c 8500 3500 low_row.0
        (slot_low 3500 (omega arith)) (omega arith) h (inr (inl refl))
        (inside _ 8500 3500 (omega arith, omega arith, omega arith, omega arith)) in
        let d = owner_at joined f w (mark Under) (part of_segment NP 0 6 20 10) b r c 8500 3500 low_row.0
        (slot_low 3500 (omega arith)) (omega arith) h (inr (inr (inl refl)))
        (inside _ 8500 3500 (omega arith, omega arith, omega arith, omega arith)) in
        join_chains (under_right 8500 3500 (inside _ 8500 3500 (omega arith, omega arith, omega arith, omega arith)))
        (link (by_cut NM NP (mark Under) (cell NC 17 7 19 9) b r c 8500 3500 low_row.0 (slot_low 3500 (omega arith))
        (omega arith) h (inr (inr (inr (inr (inl refl))))) refl
        (inside _ 8500 3500 (omega arith, omega arith, omega arith, omega arith)) a d)
        (within (mark Under) (part of_segment NP 0 6 20 10) b r c low_row.0 h (inr (inr (inl refl))) (omega arith)
        (inl (low_row.1, omega arith)) 8500 3500 u v
        (inside _ 8500 3500 (omega arith, omega arith, omega arith, omega arith)) i))

    pub under_left : (u v : ℕ) → Inside (cell NM 0 6 4 10) u v → Reached joined f w (segment s) (spot f b r c NM u v)
    under_left u v i =
        let a = owner_at joined f w (mark Under) (part of_segment NP 0 6 20 10) b r c 500 3500 low_row.0
        (slot_low 3500 (omega arith)) (omega arith) h (inr (inr (inl refl)))
        (inside _ 500 3500 (omega arith, omega arith, omega arith, omega arith)) in
        let d = owner_at joined f w (mark Under) (part of_segment NM 0 6 4 10) b r c 500 3500 low_row.0
        (slot_low 3500 (omega arith)) (omega arith) h (inl refl)
        (inside _ 500 3500 (omega arith, omega arith, omega arith, omega arith)) in
        join_chains (under_bar 500 3500 (inside _ 500 3500 (omega arith, omega arith, omega arith, omega arith)))
        (link (by_cut NP NM (mark Under) (cell NC 1 7 3 9) b r c 500 3500 low_row.0 (slot_low 3500 (omega arith))
        (omega arith) h (inr (inr (inr (inl refl)))) refl
        (inside _ 500 3500 (omega arith, omega arith, omega arith, omega arith)) a d)
        (within (mark Under) (part of_segment NM 0 6 4 10) b r c low_row.0 h (inl refl) (omega arith)
        (inl (low_row.1, omega arith)) 500 3500 u v
        (inside _ 500 3500 (omega arith, omega arith, omega arith, omega arith)) i))

  -- ---- Under in a pull-up row: from the power rail
  module _ (b r c : ℕ) (h : Here f b r c under_rail) where
    band_up : b < bands f
    band_up = (mark_stands f w Under b r c h.0).1

    slot_high : (v : ℕ) → v < 18000 → Slot f b r v
    slot_high v g = inr (h.1, g)

    pub rail_under_right : (u v : ℕ) → Inside (cell NM 16 27 20 31) u v
        → Reached joined f w (the_power) (spot f b r c NM u v)
    rail_under_right u v i =
        let e = (mark_stands f w Under b r c h.0).0 in let q = w.columns in
        let a = owner_at joined f w rail (part of_power NM 0 27 20 31) b r 1 0 14000 band_up
        (slot_high 14000 (omega arith)) (omega arith) (omega arith, omega arith, h.1) (inl refl)
        (inside _ 0 14000 (omega arith, omega arith, omega arith, omega arith)) in
        let d = owner_at joined f w under_rail (part of_power NM 16 27 20 31) b r c 9999 14000 band_up
        (slot_high 14000 (omega arith)) (omega arith) h (inr (inl refl))
        (inside _ 9999 14000 (omega arith, omega arith, omega arith, omega arith)) in
        join_chains (subst (λ z. Reached joined f w the_power (spot f b z 1 NM 0 14000)) (sym h.1)
        (reach_rail joined f w b 1 0 14000 band_up (omega arith) (omega arith) (omega arith) (omega arith)))
        (link (flip (to_the_right NM (pos (10000 * c + 9999)) (pos (500 * base f b + 6000 * r + 14000))
        (pos (10000 * 1 + 0)) (pos (500 * base f b + 6000 * r + 14000)) refl (omega (arith, ints)) d a))
        (within under_rail (part of_power NM 16 27 20 31) b r c band_up h (inr (inl refl)) (omega arith)
        (inr (h.1, omega arith)) 9999 14000 u v
        (inside _ 9999 14000 (omega arith, omega arith, omega arith, omega arith)) i))

    pub rail_under_bar : (u v : ℕ) → Inside (cell NP 0 27 20 31) u v
        → Reached joined f w (the_power) (spot f b r c NP u v)
    rail_under_bar u v i =
        let a = owner_at joined f w under_rail (part of_power NM 16 27 20 31) b r c 8500 14000 band_up
        (slot_high 14000 (omega arith)) (omega arith) h (inr (inl refl))
        (inside _ 8500 14000 (omega arith, omega arith, omega arith, omega arith)) in
        let d = owner_at joined f w under_rail (part of_power NP 0 27 20 31) b r c 8500 14000 band_up
        (slot_high 14000 (omega arith)) (omega arith) h (inr (inr (inl refl)))
        (inside _ 8500 14000 (omega arith, omega arith, omega arith, omega arith)) in
        join_chains (rail_under_right 8500 14000
        (inside _ 8500 14000 (omega arith, omega arith, omega arith, omega arith)))
        (link (by_cut NM NP under_rail (cell NC 17 28 19 30) b r c 8500 14000 band_up (slot_high 14000 (omega arith))
        (omega arith) h (inr (inr (inr (inr (inl refl))))) refl
        (inside _ 8500 14000 (omega arith, omega arith, omega arith, omega arith)) a d)
        (within under_rail (part of_power NP 0 27 20 31) b r c band_up h (inr (inr (inl refl))) (omega arith)
        (inr (h.1, omega arith)) 8500 14000 u v
        (inside _ 8500 14000 (omega arith, omega arith, omega arith, omega arith)) i))

    pub rail_under_left : (u v : ℕ) → Inside (cell NM 0 27 4 31) u v
        → Reached joined f w (the_power) (spot f b r c NM u v)
    rail_under_left u v i =
        let a = owner_at joined f w under_rail (part of_power NP 0 27 20 31) b r c 500 14000 band_up
        (slot_high 14000 (omega arith)) (omega arith) h (inr (inr (inl refl)))
        (inside _ 500 14000 (omega arith, omega arith, omega arith, omega arith)) in
        let d = owner_at joined f w under_rail (part of_power NM 0 27 4 31) b r c 500 14000 band_up
        (slot_high 14000 (omega arith)) (omega arith) h (inl refl)
        (inside _ 500 14000 (omega arith, omega arith, omega arith, omega arith)) in
        join_chains (rail_under_bar 500 14000 (inside _ 500 14000 (omega arith, omega arith, omega arith, omega arith)))
        (link (by_cut NP NM under_rail (cell NC 1 28 3 30) b r c 500 14000 band_up (slot_high 14000 (omega arith))
        (omega arith) h (inr (inr (inr (inl refl)))) refl
        (inside _ 500 14000 (omega arith, omega arith, omega arith, omega arith)) a d)
        (within under_rail (part of_power NM 0 27 4 31) b r c band_up h (inl refl) (omega arith)
        (inr (h.1, omega arith)) 500 14000 u v
        (inside _ 500 14000 (omega arith, omega arith, omega arith, omega arith)) i))
