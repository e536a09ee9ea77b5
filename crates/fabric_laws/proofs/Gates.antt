-- The gates of a fabric are closed: beside a channel diffusion goes on, or polysilicon does for two lambda.
use Rattle.std.proofs.Common.{ℕ, ◌≡◌, ◌+◌, ◌*◌, ◌-◌, ◌<◌, ◌≤◌, ◌⊎◌, inl, inr, refl, sym, subst, arith, Bool, true, false}
use Rattle.std.proofs.Common.{◌&&◌, ◌||◌, leb}
use Rattle.std.specs.Prelude.{ℤ, pos, neg_ℤ, ◌+ℤ◌}
use Rattle.std.proofs.lemmas.Int.{ints}
use Rattle.std.proofs.lemmas.Bool.{and_parts, and_from, or_cases, leb-true, cases_lt}
use Rattle.mp_base.proofs.Members.{Member}
use Rattle.lam_geom.specs.declared.layer.Layer.{Layer}
use Rattle.lam_geom.specs.declared.layer.Layer.TheVariants.{ND, NP}
use Rattle.lam_geom.specs.Squares.{covered}
use Rattle.lam_geom.proofs.Ranks.{one_layer}
use Rattle.switch_net.specs.Conductors.{IsChannel}
use Rattle.tile_cells.specs.Tiles.{Cell}
use Rattle.fabric.specs.Plan.{Plan, bands, IsFabric}
use Rattle.fabric.specs.Shape.{base, shape}
use Rattle.lam_geom.specs.Rules.{Way, to_x, to_y, IsBad, IsOpenGate}
use Rattle.lam_geom.specs.Rules.Way.{right, left, up, down}
use Rattle.lam_geom.specs.Rules.IsBad.{nothing, short}
use Rattle.fabric_laws.proofs.Tile.{Thing, cells_of, Here, Inside, At, Slot}
use Rattle.fabric_laws.proofs.Lists.{every, every_at, some, some_at}
use Rattle.fabric_laws.proofs.Local.{local_of}
use Rattle.fabric_laws.proofs.Spots.{same_place, move}
use Rattle.fabric_laws.proofs.Zones.{IsRow, row_at, here_row, are_together}
use Rattle.fabric_laws.proofs.Conductors.{Crossing, all_things, all_rows, follows, at_channel, layer_is, they_meet}
use Rattle.fabric_laws.proofs.Conductors.{drawn_larger, crossing_is, crossing_of}
use Rattle.fabric_laws.proofs.Tables.{Row, channels, things, rows_all, every_channel, implies, together, is_layer}
use Rattle.fabric_laws.proofs.Tables.{lies_in, meets, stands_in, row_height}
use Rattle.fabric_laws.proofs.RuleTables.{edge_of, margin_of, goes_out, hangs_over, is_gate, has_room}
use Rattle.fabric_laws.proofs.RuleTables.{is_gate_passes, has_room_passes}
use Rattle.fabric_laws.proofs.Widths.{slot_in, below_top}

-- the place so many further that way
abbrev pub u_to : Way → ℕ → ℕ → ℕ
u_to right u k = u + k
u_to left u k = u - k
u_to up u k = u
u_to down u k = u

abbrev pub v_to : Way → ℕ → ℕ → ℕ
v_to right v k = v
v_to left v k = v
v_to up v k = v + k
v_to down v k = v - k

-- from a place of a channel the next one is in it, or it and all within two lambda are beside it
data Leaves (z : Way) (h : Cell) (u v : ℕ) : Type 0 where
  stays : Inside h (u_to z u 1) (v_to z v 1) → Leaves z h u v
  goes : Inside (edge_of z h) (u_to z u 1) (v_to z v 1)
      → ((k : ℕ) → 1 ≤ k → k ≤ 1000 → Inside (margin_of z h) (u_to z u k) (v_to z v k)) → Leaves z h u v

leaves : (z : Way) (h : Cell) (u v : ℕ) → 2 ≤ h.x0 → 2 ≤ h.y0 → Inside h u v → Leaves z h u v
leaves right h u v a b i =
    let i0 = i.left in let i1 = i.right in let i2 = i.bottom in let i3 = i.top in
    elim (cases_lt (u + 1) (500 * h.x1)) [
      | inl g ↦ stays (record { left = omega arith; right = g; bottom = i2; top = i3 })
      | inr g ↦ goes (record { left = omega arith; right = omega arith; bottom = i2; top = i3 })
          (λ k m n. record { left = omega arith; right = omega arith; bottom = i2; top = i3 })
    ]
leaves left h u v a b i =
    let i0 = i.left in let i1 = i.right in let i2 = i.bottom in let i3 = i.top in
    elim (cases_lt (500 * h.x0) u) [
      | inl g ↦ stays (record { left = omega arith; right = omega arith; bottom = i2; top = i3 })
      | inr g ↦ goes (record { left = omega arith; right = omega arith; bottom = i2; top = i3 })
          (λ k m n. record { left = omega arith; right = omega arith; bottom = i2; top = i3 })
    ]
leaves up h u v a b i =
    let i0 = i.left in let i1 = i.right in let i2 = i.bottom in let i3 = i.top in
    elim (cases_lt (v + 1) (500 * h.y1)) [
      | inl g ↦ stays (record { left = i0; right = i1; bottom = omega arith; top = g })
      | inr g ↦ goes (record { left = i0; right = i1; bottom = omega arith; top = omega arith })
          (λ k m n. record { left = i0; right = i1; bottom = omega arith; top = omega arith })
    ]
leaves down h u v a b i =
    let i0 = i.left in let i1 = i.right in let i2 = i.bottom in let i3 = i.top in
    elim (cases_lt (500 * h.y0) v) [
      | inl g ↦ stays (record { left = i0; right = i1; bottom = omega arith; top = omega arith })
      | inr g ↦ goes (record { left = i0; right = i1; bottom = omega arith; top = omega arith })
          (λ k m n. record { left = i0; right = i1; bottom = omega arith; top = omega arith })
    ]

at_way : (z : Way) (t : Thing) (h : Cell) → is_gate t h ≡ true → (goes_out z t h || hangs_over z t h) ≡ true
at_way z t h e =
    let a = and_parts (goes_out right t h || hangs_over right t h) ((goes_out left t h || hangs_over left t h)
    && ((goes_out up t h || hangs_over up t h) && (goes_out down t h || hangs_over down t h))) e in
    let b = and_parts (goes_out left t h || hangs_over left t h)
    ((goes_out up t h || hangs_over up t h) && (goes_out down t h || hangs_over down t h)) a.1 in
    let c = and_parts (goes_out up t h || hangs_over up t h) (goes_out down t h || hangs_over down t h) b.1 in
    pick z a.0 b.0 c.0 c.1
  where
    pick : (z : Way) → (goes_out right t h || hangs_over right t h) ≡ true
        → (goes_out left t h || hangs_over left t h) ≡ true → (goes_out up t h || hangs_over up t h) ≡ true
        → (goes_out down t h || hangs_over down t h) ≡ true → (goes_out z t h || hangs_over z t h) ≡ true
    pick right a b c d = a
    pick left a b c d = b
    pick up a b c d = c
    pick down a b c d = d

record Room (q : Row) (h : Cell) : Type 0 where
  left : 2 ≤ h.x0
  right : h.x1 + 2 ≤ 20
  bottom : 2 ≤ h.y0
  top : h.y1 + 2 ≤ row_height q

room : (q : Row) (t : Thing) (h : Cell) → Member (channels t) h → stands_in t q ≡ true → Room q h
room q t h m s =
    let e = follows (stands_in t q) (leb 2 h.x0 && (leb (h.x1 + 2) 20 && (leb 2 h.y0 && leb (h.y1 + 2) (row_height q))))
    (at_channel (has_room q) (every_at (λ q. every_channel (has_room q)) rows_all q has_room_passes (all_rows q)) t h m) s
    in
    let a = and_parts (leb 2 h.x0) (leb (h.x1 + 2) 20 && (leb 2 h.y0 && leb (h.y1 + 2) (row_height q))) e in
    let b = and_parts (leb (h.x1 + 2) 20) (leb 2 h.y0 && leb (h.y1 + 2) (row_height q)) a.1 in
    let c = and_parts (leb 2 h.y0) (leb (h.y1 + 2) (row_height q)) b.1 in
    record {
      left = leb-true 2 h.x0 a.0;
      right = leb-true (h.x1 + 2) 20 b.0;
      bottom = leb-true 2 h.y0 c.0;
      top = leb-true (h.y1 + 2) (row_height q) c.1;
    }

module _ (f : Plan) (w : IsFabric f) where
  -- the tile and the place of a square that way
  at_next : (z : Way) (k : ℕ) (h : Cell) (b r c u v : ℕ) (x y : ℤ) (q : Row) → k ≤ 1000 → IsRow f b r q → Room q h
      → Inside h u v → At f b r c u v x y → At f b r c (u_to z u k) (v_to z v k) (to_x z x k) (to_y z y k)
  at_next right k h b r c u v x y q n iq m i a =
      let i1 = i.right in let m1 = m.right in let a0 = a.at_x in
      record { band = a.band; slot = a.slot; at_x = omega (arith, ints); at_y = a.at_y; in_x = omega arith }
  at_next left k h b r c u v x y q n iq m i a =
      let i1 = i.left in let m1 = m.left in let a0 = a.at_x in let a2 = a.in_x in
      record { band = a.band; slot = a.slot; at_x = omega (arith, ints); at_y = a.at_y; in_x = omega arith }
  at_next up k h b r c u v x y q n iq m i a =
      let i1 = i.top in let m1 = m.top in let a0 = a.at_y in
      record {
        band = a.band;
        slot = slot_in f w b r (v + k) q a.band iq (omega arith);
        at_x = a.at_x;
        at_y = omega (arith, ints);
        in_x = a.in_x;
      }
  at_next down k h b r c u v x y q n iq m i a =
      let i1 = i.bottom in let m1 = m.bottom in let a0 = a.at_y in
      let j = below_top f w b r v q a.band iq a.slot in
      record {
        band = a.band;
        slot = slot_in f w b r (v - k) q a.band iq (omega arith);
        at_x = a.at_x;
        at_y = omega (arith, ints);
        in_x = a.in_x;
      }

  -- what a test finds among a thing's rectangles is drawn
  pub found : (l : Layer) (t : Thing) (p : Cell) (b r c u v : ℕ) (x y : ℤ)
      → some (λ k. is_layer l k && lies_in p k) (cells_of t) ≡ true → Here f b r c t → At f b r c u v x y
      → Inside p u v → covered (shape f) l x y
  found l t p b r c u v x y e h a i =
      let k = some_at (λ k. is_layer l k && lies_in p k) (cells_of t) e in
      let g = and_parts (is_layer l k.0) (lies_in p k.0) k.2 in
      drawn_larger f w t k.0 p l b r c u v x y k.1 (one_layer k.0.layer l g.0) g.1 h a i

  -- and there is no diffusion where a test finds none
  no_diffusion : (t : Thing) (p : Cell) (b r c u v : ℕ) (x y : ℤ)
      → every (λ q. every (λ s. every (λ k. implies (together q t s && (is_layer ND k && meets p k)) false)
      (cells_of s)) things) rows_all ≡ true
      → Here f b r c t → At f b r c u v x y → Inside p u v → ¬ covered (shape f) ND x y
  no_diffusion t p b r c u v x y e h a i n =
      let d = local_of f w ND x y n in
      let g = same_place f d.b d.r d.c d.u d.v b r c u v x y d.at a in
      let q = row_at f w b r v a.slot in
      let s : Here f b r c d.thing = move (λ b r c. Here f b r c d.thing) g.tile d.here in
      let j : Inside d.cell u v = subst (λ z. Inside d.cell z v) g.across
      (subst (λ z. Inside d.cell d.u z) g.up d.inside) in
      let m = and_from _ _ (are_together f w t d.thing b r c q.0 a.band q.1 h s)
      (and_from _ _ (layer_is ND d.cell d.layer) (they_meet p d.cell u v i j)) in
      let e0 = every_at (λ q. every (λ s. every (λ k. implies (together q t s && (is_layer ND k && meets p k)) false)
      (cells_of s)) things) rows_all q.0 e (all_rows q.0) in
      let e1 = every_at (λ s. every (λ k. implies (together q.0 t s && (is_layer ND k && meets p k)) false)
      (cells_of s)) things d.thing e0 (all_things d.thing) in
      let e2 = every_at (λ k. implies (together q.0 t d.thing && (is_layer ND k && meets p k)) false)
      (cells_of d.thing) d.cell e1 d.among in
      let o = follows (together q.0 t d.thing && (is_layer ND d.cell && meets p d.cell)) false e2 m in
      absurd (cc)

  not_bad : (z : Way) (x y : ℤ) → covered (shape f) ND (to_x z x 1) (to_y z y 1) → ¬ IsBad (covered (shape f)) z x y
  not_bad z x y h (nothing a b) = b h
  not_bad z x y h (short a b k m n s) = b h

  not_short : (z : Way) (x y : ℤ)
      → ((k : ℕ) → 1 ≤ k → k ≤ 1000 → covered (shape f) NP (to_x z x k) (to_y z y k)
      × ¬ covered (shape f) ND (to_x z x k) (to_y z y k))
      → ¬ IsBad (covered (shape f)) z x y
  not_short z x y h (nothing a b) = a (h 1 (omega arith) (omega arith)).0
  not_short z x y h (short a b k m n (inl s)) = s (h k m n).0
  not_short z x y h (short a b k m n (inr s)) = (h k m n).1 s

  pub gates_are_closed : (x y : ℤ) → ¬ IsOpenGate (covered (shape f)) x y
  gates_are_closed x y g =
      let o = crossing_of f w x y (record { gate = g.gate; diffusion = g.diffusion; unburied = g.unburied }) in
      let q = row_at f w o.b o.r o.v o.at.slot in
      let m = room q.0 o.thing o.cell o.among (here_row f w o.thing o.b o.r o.c q.0 o.at.band o.here q.1) in
      let e = at_way g.way o.thing o.cell (at_channel is_gate is_gate_passes o.thing o.cell o.among) in
      elim (leaves g.way o.cell o.u o.v m.left m.bottom o.inside) [
        | stays i ↦ not_bad g.way x y
            (crossing_is f w (to_x g.way x 1) (to_y g.way y 1) (record {
              b = o.b;
              r = o.r;
              c = o.c;
              u = u_to g.way o.u 1;
              v = v_to g.way o.v 1;
              at = at_next g.way 1 o.cell o.b o.r o.c o.u o.v x y q.0 (omega arith) q.1 m o.inside o.at;
              thing = o.thing;
              here = o.here;
              cell = o.cell;
              among = o.among;
              inside = i;
            })).diffusion g.bad
        | goes i j ↦ elim (or_cases (goes_out g.way o.thing o.cell) (hangs_over g.way o.thing o.cell) e) [
          | inl d ↦ not_bad g.way x y
              (found ND o.thing (edge_of g.way o.cell) o.b o.r o.c (u_to g.way o.u 1) (v_to g.way o.v 1)
              (to_x g.way x 1) (to_y g.way y 1) d o.here
              (at_next g.way 1 o.cell o.b o.r o.c o.u o.v x y q.0 (omega arith) q.1 m o.inside o.at) i) g.bad
          | inr d ↦ (let p = and_parts (some (λ k. is_layer NP k && lies_in (margin_of g.way o.cell) k)
              (cells_of o.thing))
              (every (λ q. every (λ s. every (λ k. implies (together q o.thing s
              && (is_layer ND k && meets (margin_of g.way o.cell) k)) false) (cells_of s)) things) rows_all) d in
              not_short g.way x y
              (λ k k0 k1.
              let a = at_next g.way k o.cell o.b o.r o.c o.u o.v x y q.0 k1 q.1 m o.inside o.at in (
                found NP o.thing (margin_of g.way o.cell) o.b o.r o.c (u_to g.way o.u k) (v_to g.way o.v k)
                    (to_x g.way x k) (to_y g.way y k) p.0 o.here a (j k k0 k1),
                no_diffusion o.thing (margin_of g.way o.cell) o.b o.r o.c (u_to g.way o.u k) (v_to g.way o.v k)
                    (to_x g.way x k) (to_y g.way y k) p.1 o.here a (j k k0 k1),
              )) g.bad)
        ]
      ]
