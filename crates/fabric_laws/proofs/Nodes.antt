-- Two squares are joined by a chain exactly where taps join their nets.
use Rattle.std.proofs.Common.{ℕ, ◌≡◌, ◌+◌, ◌<◌, ◌⊎◌, inl, inr, refl, sym, subst, arith, Contains}
use Rattle.std.specs.Prelude.{◌↔◌}
use Rattle.mp_base.proofs.Members.{Member}
use Rattle.lam_geom.specs.declared.layer.Layer.TheVariants.{ND, NP, NC, NM}
use Rattle.lam_geom.specs.Squares.{Square, covered, RectanglesAreJoined}
use Rattle.lam_geom.specs.Chains.{Chain}
use Rattle.lam_geom.specs.Chains.Chain.{here, link}
use Rattle.switch_net.specs.Conductors.{Conducts}
use Rattle.switch_net.specs.Conductors.Joined.{beside, contact}
use Rattle.tile_cells.specs.declared.tile.Tile.{Tile}
use Rattle.tile_cells.specs.declared.tile.Tile.TheVariants.{TapL, TapR, Tran, PullUp, Under}
use Rattle.tile_cells.specs.Tiles.{Cell, cell, cells}
use Rattle.fabric.specs.declared.thing.Side.{Side}
use Rattle.fabric.specs.declared.thing.Side.TheVariants.{L, R}
use Rattle.fabric.specs.declared.thing.Segment.{Segment}
use Rattle.fabric.specs.declared.thing.Line.{Line}
use Rattle.fabric.specs.declared.thing.Mark.{Mark}
use Rattle.fabric.specs.Plan.{Plan, bands, rows_of, Passes, SegmentAt, LineAt, IsFabric}
use Rattle.fabric.specs.Shape.{offset, shape}
use Rattle.fabric.specs.Switches.{Net, SegmentOf, IsTapOn, Taps, Tapped}
use Rattle.fabric.specs.Switches.Net.{segment, line, ground, power as the_power}
use Rattle.fabric.specs.Switches.Tapped.{up, down}
use Rattle.fabric_laws.proofs.Tile.{Thing, Here, MarkAt, Inside, Slot}
use Rattle.fabric_laws.proofs.Tile.Thing.{trunk, power, ground_start, ground_on, rail, rail_end, seg, lin, mark}
use Rattle.fabric_laws.proofs.Tile.Thing.{under_rail}
use Rattle.fabric.proofs.Lying.{some_rows, crossing, passing}
use Rattle.fabric_laws.proofs.Zones.{mark_stands, pull_up_line}
use Rattle.fabric_laws.proofs.Nets.{NetAt}
use Rattle.fabric_laws.proofs.Joins.{Owns, one_net_here, square_net, join_nets, owned}
use Rattle.lam_geom.proofs.Chains.{join_chains, turn_chain}
use Rattle.lam_geom.proofs.Following.{follow}
use Rattle.switch_net.proofs.Joins.{join_flip}
use Rattle.fabric_laws.proofs.Together.{spot, anchor, J, Reached, owner_at, reach_trunk, reach_power, reach_ground}
use Rattle.fabric_laws.proofs.Together.{reach_rail, reach_segment, reach_line}
use Rattle.fabric_laws.proofs.Marks.{inside, by_cut, gate_high, gate_low, stub_left, stub_right, foot, plate, neck}
use Rattle.fabric_laws.proofs.Marks.{gate}
use Rattle.fabric_laws.proofs.Marks.{low_end, high_end, head, under_right, under_bar, under_left, rail_under_right}
use Rattle.fabric_laws.proofs.Marks.{rail_under_bar, rail_under_left}
use Rattle.fabric_laws.proofs.Tables.{Part, Kind, part, parts}
use Rattle.fabric_laws.proofs.Tables.Kind.{of_ground, of_power, of_segment, of_line}

module _ (joined : RectanglesAreJoined) (f : Plan) (w : IsFabric f) where
  -- the places of the conductor are joined with its net
  abbrev Good : ℕ → ℕ → ℕ → Part → Type 0
  Good b r c p = (u v : ℕ) → Slot f b r v → u < 10000 → Inside p.cell u v → (n : Net) → NetAt f b r c p.kind n
      → Reached joined f w n (spot f b r c p.cell.layer u v)

  as_net : (b r c : ℕ) (k : Kind) (n m : Net) (s : Square) → NetAt f b r c k n → NetAt f b r c k m
      → Reached joined f w n s → Reached joined f w m s
  as_net b r c k n m s h g d = subst (λ z. Reached joined f w z s) (one_net_here f w b r c k n m h g) d

  on_segment : (b r c : ℕ) (k : SegmentAt f b r c) (n : Net) (s : Square) → NetAt f b r c of_segment n
      → Reached joined f w (segment k.segment) s → Reached joined f w n s
  on_segment b r c k n s g d = as_net b r c of_segment (segment k.segment) n s
      (k.segment, k.among, inl k.crosses, refl) g d

  on_line : (z : Side) (b r c : ℕ) (l : LineAt f z b c) (n : Net) (s : Square) → NetAt f b r c (of_line z) n
      → Reached joined f w (line l.line) s → Reached joined f w n s
  on_line z b r c l n s g d = as_net b r c (of_line z) (line l.line) n s (l.line, l.among, l.passes, refl) g d

  under_good : (b r c : ℕ) (h : Here f b r c (mark Under)) (n : Net) → NetAt f b r c of_segment n → (P : Net → Type 0)
      → ((s : Segment) → Contains f.segments s → c ≡ 0 → s.band ≡ b → s.row ≡ r → s.first ≡ 1 → P (segment s)) → P n
  under_good b r c h n (s, ms, inl p, e) P k = let e0 = (mark_stands f w Under b r c h.0).0 in
      let i = crossing f w b r c (record { segment = s; among = ms; crosses = p }) in let l = i.left in
      absurd (omega arith)
  under_good b r c h n (s, ms, inr (e0, e1, e2, e3), e) P k = subst P (sym e) (k s ms e0 e1 e2 e3)

  good : (t : Thing) (p : Part) (b r c : ℕ) → b < bands f → Here f b r c t → Member (parts t) p → Good b r c p
  good trunk p b r c hb h (inl e) = subst (Good b r c) e
      (λ u v s hu i n g. as_net b r c of_ground (ground) n _ refl g (reach_trunk joined f w b r c u v hb s h i))
  good trunk p b r c hb h (inr m) = absurd m
  good power p b r c hb h (inl e) = subst (Good b r c) e
      (λ u v s hu i n g. as_net b r c of_power (the_power) n _ refl g (reach_power joined f w b r c u v hb s h i))
  good power p b r c hb h (inr m) = absurd m
  good ground_start p b r c hb h (inl e) = subst (Good b r c) e
      (λ u v s hu i n g. let q = w.columns in let h0 = h.0 in let i0 = i.left in let i1 = i.right in
      let i2 = i.bottom in let i3 = i.top in as_net b r c of_ground ground n _ refl g
      (subst (λ z. Reached joined f w ground (spot f b z c NM u v)) (sym h.1)
      (reach_ground joined f w b c u v hb (omega arith) (omega arith) hu (omega arith) (omega arith))))
  good ground_start p b r c hb h (inr m) = absurd m
  good ground_on p b r c hb h (inl e) = subst (Good b r c) e
      (λ u v s hu i n g. let h0 = h.0 in let h1 = h.1 in let i0 = i.left in let i1 = i.right in let i2 = i.bottom in
      let i3 = i.top in as_net b r c of_ground ground n _ refl g
      (subst (λ z. Reached joined f w ground (spot f b z c NM u v)) (sym h.2)
      (reach_ground joined f w b c u v hb (omega arith) (omega arith) hu (omega arith) (omega arith))))
  good ground_on p b r c hb h (inr m) = absurd m
  good rail p b r c hb h (inl e) = subst (Good b r c) e (λ u v s hu i n g. let h0 = h.0 in let h1 = h.1 in
      let i0 = i.left in let i1 = i.right in let i2 = i.bottom in let i3 = i.top in
      as_net b r c of_power the_power n _ refl g (subst (λ z. Reached joined f w the_power (spot f b z c NM u v))
      (sym h.2) (reach_rail joined f w b c u v hb h.0 (omega arith) (omega arith) (omega arith))))
  good rail p b r c hb h (inr m) = absurd m
  good rail_end p b r c hb h (inl e) = subst (Good b r c) e
      (λ u v s hu i n g. let q = w.columns in let h0 = h.0 in let i0 = i.left in let i1 = i.right in
      let i2 = i.bottom in let i3 = i.top in as_net b r c of_power the_power n _ refl g
      (subst (λ z. Reached joined f w the_power (spot f b z c NM u v)) (sym h.1)
      (reach_rail joined f w b c u v hb (omega arith) (omega arith) (omega arith) (omega arith))))
  good rail_end p b r c hb h (inr m) = absurd m
  good seg p b r c hb h (inl e) = subst (Good b r c) e (λ u v s hu i n g. let i2 = i.bottom in let i3 = i.top in
      on_segment b r c h n _ g (reach_segment joined f w h.segment h.among b r c u v h.crosses hu
      (omega arith) (omega arith)))
  good seg p b r c hb h (inr m) = absurd m
  good (lin z) p b r c hb (l, ml, q, k) (inl e) = subst (Good b r c) e
      (λ u v s hu i n g. as_net b r c (of_line z) (line l) n _ (l, ml, q, refl) g
      (reach_line joined f w l ml z b r c u v q k s i.left i.right))
  good (lin z) p b r c hb h (inr m) = absurd m
  good (mark TapL) p b r c hb h m = absurd m
  good (mark TapR) p b r c hb h m = absurd m
  good (mark Tran) p b r c hb h (inl e) = subst (Good b r c) e
      (λ u v s hu i n g. on_line L b r c (mark_stands f w Tran b r c h.0).0 n _ g (stub_left joined f w b r c h u v i))
  good (mark Tran) p b r c hb h (inr (inl e)) = subst (Good b r c) e
      (λ u v s hu i n g. on_line R b r c (mark_stands f w Tran b r c h.0).1 n _ g (stub_right joined f w b r c h u v i))
  good (mark Tran) p b r c hb h (inr (inr (inl e))) = subst (Good b r c) e
      (λ u v s hu i n g. on_segment b r c (mark_stands f w Tran b r c h.0).2 n _ g (gate_low joined f w b r c h u v i))
  good (mark Tran) p b r c hb h (inr (inr (inr (inl e)))) = subst (Good b r c) e
      (λ u v s hu i n g. on_segment b r c (mark_stands f w Tran b r c h.0).2 n _ g (gate_high joined f w b r c h u v i))
  good (mark Tran) p b r c hb h (inr (inr (inr (inr m)))) = absurd m
  good (mark PullUp) p b r c hb h (inl e) = subst (Good b r c) e
      (λ u v s hu i n g. on_line L b r c (pull_up_line f w b r c h.0) n _ g (foot joined f w b r c h u v i))
  good (mark PullUp) p b r c hb h (inr (inl e)) = subst (Good b r c) e
      (λ u v s hu i n g. on_line L b r c (pull_up_line f w b r c h.0) n _ g (plate joined f w b r c h u v i))
  good (mark PullUp) p b r c hb h (inr (inr (inl e))) = subst (Good b r c) e
      (λ u v s hu i n g. on_line L b r c (pull_up_line f w b r c h.0) n _ g (neck joined f w b r c h u v i))
  good (mark PullUp) p b r c hb h (inr (inr (inr (inl e)))) = subst (Good b r c) e
      (λ u v s hu i n g. on_line L b r c (pull_up_line f w b r c h.0) n _ g (gate joined f w b r c h u v i))
  good (mark PullUp) p b r c hb h (inr (inr (inr (inr (inl e))))) = subst (Good b r c) e
      (λ u v s hu i n g. on_line L b r c (pull_up_line f w b r c h.0) n _ g (low_end joined f w b r c h u v i))
  good (mark PullUp) p b r c hb h (inr (inr (inr (inr (inr (inl e)))))) = subst (Good b r c) e
      (λ u v s hu i n g. as_net b r c of_power (the_power) n _ refl g (high_end joined f w b r c h u v i))
  good (mark PullUp) p b r c hb h (inr (inr (inr (inr (inr (inr (inl e))))))) = subst (Good b r c) e
      (λ u v s hu i n g. as_net b r c of_power (the_power) n _ refl g (head joined f w b r c h u v i))
  good (mark PullUp) p b r c hb h (inr (inr (inr (inr (inr (inr (inr m))))))) = absurd m
  good (mark Under) p b r c hb h (inl e) = subst (Good b r c) e
      (λ u v s hu i n g. under_good b r c h n g (λ n. Reached joined f w n (spot f b r c NM u v))
      (λ z mz e0 e1 e2 e3. under_left joined f w b r c h z mz e0 e1 e2 e3 u v i))
  good (mark Under) p b r c hb h (inr (inl e)) = subst (Good b r c) e
      (λ u v s hu i n g. under_good b r c h n g (λ n. Reached joined f w n (spot f b r c NM u v))
      (λ z mz e0 e1 e2 e3. under_right joined f w b r c h z mz e0 e1 e2 e3 u v i))
  good (mark Under) p b r c hb h (inr (inr (inl e))) = subst (Good b r c) e
      (λ u v s hu i n g. under_good b r c h n g (λ n. Reached joined f w n (spot f b r c NP u v))
      (λ z mz e0 e1 e2 e3. under_bar joined f w b r c h z mz e0 e1 e2 e3 u v i))
  good (mark Under) p b r c hb h (inr (inr (inr m))) = absurd m
  good under_rail p b r c hb h (inl e) = subst (Good b r c) e
      (λ u v s hu i n g. as_net b r c of_power (the_power) n _ refl g (rail_under_left joined f w b r c h u v i))
  good under_rail p b r c hb h (inr (inl e)) = subst (Good b r c) e
      (λ u v s hu i n g. as_net b r c of_power (the_power) n _ refl g (rail_under_right joined f w b r c h u v i))
  good under_rail p b r c hb h (inr (inr (inl e))) = subst (Good b r c) e
      (λ u v s hu i n g. as_net b r c of_power (the_power) n _ refl g (rail_under_bar joined f w b r c h u v i))
  good under_rail p b r c hb h (inr (inr (inr m))) = absurd m

  -- Each square of a net is joined with its anchor.
  pub reach : (s : Square) (n : Net) → Owns f n s → Reached joined f w n s
  reach s n h =
      let o = h.owner in
      let d = good o.thing o.part o.b o.r o.c o.at.band o.here o.among o.u o.v o.at.slot o.at.in_x o.inside n h.net in
      let e : spot f o.b o.r o.c o.part.cell.layer o.u o.v ≡ s = λ i. record
      { layer = o.layer i; x = (sym o.at.at_x) i; y = (sym o.at.at_y) i } in
      subst (Reached joined f w n) e d

  -- a cut over a line and metal joins their nets
  over_at : (s : Side) (t : Tile) (k : Cell) (x b r c : ℕ) → Member (cells t) k → k.layer ≡ NC → Inside k x 3500
      → x < 10000 → Inside (cell ND (offset s) 0 (offset s + 4) 36) x 3500 → Inside (cell NM 0 6 20 10) x 3500
      → MarkAt f t b r c → b < bands f → r < rows_of f b → (l : Line) → Contains f.lines l → Passes l s b c
      → (z : Kind) (tm : Thing) → Here f b r c tm → Member (parts tm) (part z NM 0 6 20 10) → (m : Net)
      → Reached joined f w m (spot f b r c NM x 3500) → Chain (J joined f w) (anchor f (line l)) (anchor f m)
  over_at s t k x b r c mk ek ik hx il im mt hb hr l ml q z tm hm mm m g =
      let sl : Slot f b r 3500 = inl (hr, omega arith) in
      let a = owner_at joined f w (lin s) (part (of_line s) ND (offset s) 0 (offset s + 4) 36) b r c x 3500 hb sl hx
      (l, ml, q, inl hr) (inl refl) il in
      let d = owner_at joined f w tm (part z NM 0 6 20 10) b r c x 3500 hb sl hx hm mm im in
      join_chains (reach_line joined f w l ml s b r c x 3500 q (inl hr) sl il.left il.right)
      (link (by_cut joined f w ND NM (mark t) k b r c x 3500 hb sl hx (mt, λ e. hr) mk ek ik a d)
      (turn_chain (join_flip (covered (shape f))) g))

  over : (s : Side) (t : Tile) (b r c : ℕ) → IsTapOn s t → MarkAt f t b r c → b < bands f → r < rows_of f b → (l : Line)
      → Contains f.lines l → Passes l s b c
      → (z : Kind) (tm : Thing) → Here f b r c tm → Member (parts tm) (part z NM 0 6 20 10) → (m : Net)
      → ((x : ℕ) → x < 10000 → Reached joined f w m (spot f b r c NM x 3500))
      → Chain (J joined f w) (anchor f (line l)) (anchor f m)
  over L t b r c e mt hb hr l ml q z tm hm mm m g =
      over_at L TapL (cell NC 3 7 5 9) 1500 b r c (inl refl) refl
      (inside _ 1500 3500 (omega arith, omega arith, omega arith, omega arith)) (omega arith)
      (inside _ 1500 3500 (omega arith, omega arith, omega arith, omega arith))
      (inside _ 1500 3500 (omega arith, omega arith, omega arith, omega arith))
      (subst (λ y. MarkAt f y b r c) e mt) hb hr l ml q z tm hm mm m (g 1500 (omega arith))
  over R t b r c e mt hb hr l ml q z tm hm mm m g =
      over_at R TapR (cell NC 15 7 17 9) 7500 b r c (inl refl) refl
      (inside _ 7500 3500 (omega arith, omega arith, omega arith, omega arith)) (omega arith)
      (inside _ 7500 3500 (omega arith, omega arith, omega arith, omega arith))
      (inside _ 7500 3500 (omega arith, omega arith, omega arith, omega arith))
      (subst (λ y. MarkAt f y b r c) e mt) hb hr l ml q z tm hm mm m (g 7500 (omega arith))

  tap_line : (t : Mark) → Contains f.marks t → (s : Side) → IsTapOn s t.tile → (l : Line) → Contains f.lines l
      → Passes l s t.band t.column → (m : Net) → (t.row ≡ 0) × (m ≡ ground) ⊎ SegmentOf f t m
      → Chain (J joined f w) (anchor f (line l)) (anchor f m)
  tap_line t mt s e l ml q m (inl g) =
      let i = passing f w l s t.band t.column ml q in
      let n0 = some_rows f w t.band i.band in
      let hr : t.row < rows_of f t.band = let g0 = g.0 in omega arith in
      subst (λ z. Chain (J joined f w) (anchor f (line l)) (anchor f z)) (sym g.1)
      (over s t.tile t.band t.row t.column e
      (record { mark_ = t; among = mt; tile = refl; band = refl; row = refl; column = refl }) i.band hr l ml q
      of_ground ground_on (i.left, i.right, g.0) (inl refl) ground
      (λ x hx. subst (λ z. Reached joined f w ground (spot f t.band z t.column NM x 3500)) (sym g.0)
      (let i1 = i.left in reach_ground joined f w t.band t.column x 3500 i.band i.right (omega arith) hx
      (omega arith) (omega arith))))
  tap_line t mt s e l ml q m (inr g) =
      let at : SegmentAt f t.band t.row t.column = record {
        segment = g.the_segment;
        among = g.among;
        crosses = g.crosses;
      } in
      let k = crossing f w t.band t.row t.column at in
      subst (λ z. Chain (J joined f w) (anchor f (line l)) (anchor f z)) (sym g.is)
      (over s t.tile t.band t.row t.column e
      (record { mark_ = t; among = mt; tile = refl; band = refl; row = refl; column = refl }) k.band k.row l ml q
      of_segment seg at (inl refl) (segment g.the_segment)
      (λ x hx. reach_segment joined f w g.the_segment g.among t.band t.row t.column x 3500 g.crosses hx (omega arith)
      (omega arith)))

  tap_joins : (n m : Net) → Taps f n m → Chain (J joined f w) (anchor f n) (anchor f m)
  tap_joins n m t =
      subst (λ z. Chain (J joined f w) (anchor f z) (anchor f m)) (sym t.the_line.is)
      (tap_line t.mark t.among t.side t.tile t.the_line.the_line t.the_line.among t.the_line.passes m t.other)

  tapped_joins : {n m : Net} → Chain (Tapped f) n m → Chain (J joined f w) (anchor f n) (anchor f m)
  tapped_joins here = here
  tapped_joins (link {s = n} {t = m} (up t) c) = join_chains (tap_joins n m t) (tapped_joins c)
  tapped_joins (link {s = n} {t = m} (down t) c) = join_chains
      (turn_chain (join_flip (covered (shape f))) (tap_joins m n t)) (tapped_joins c)

  conducts_after : (s t : Square) → J joined f w s t → Conducts (covered (shape f)) t
  conducts_after s t (beside j) = j.to
  conducts_after s t (contact j) = j.to

  -- **Two squares are joined by a chain exactly where a chain of taps leads from the net of the one to that of the
  -- other.**
  pub nodes_are_nets : (s t : Square) (n m : Net) → Owns f n s → Owns f m t
      → Chain (J joined f w) s t ↔ Chain (Tapped f) n m
  nodes_are_nets s t n m hn hm = (there, back_)
    where
      there : Chain (J joined f w) s t → Chain (Tapped f) n m
      there c =
          let g = follow (Owns f) (λ a d p j h. let o = owned f w d (conducts_after a d j) in
          (o.0, o.2, join_nets f w a d p o.0 j h o.2)) c n hn in
          subst (Chain (Tapped f) n) (square_net f w t g.0 m g.1 hm) g.2

      back_ : Chain (Tapped f) n m → Chain (J joined f w) s t
      back_ c = join_chains (turn_chain (join_flip (covered (shape f))) (reach s n hn))
          (join_chains (tapped_joins c) (reach t m hm))
