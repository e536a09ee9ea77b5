-- Joined squares are of one net, or of nets that a tap joins.
use Rattle.std.proofs.Common.{ℕ, zero, suc, ◌≡◌, ◌+◌, ◌<◌, ◌≤◌, ◌⊎◌, inl, inr, refl, sym, ◌∙◌, ap, subst, arith, Bool}
use Rattle.std.proofs.Common.{true, not, ◌&&◌, ◌||◌, leb, eqb}
use Rattle.std.specs.Prelude.{ℤ, pos, ◌+ℤ◌}
use Rattle.std.proofs.lemmas.Bool.{and_parts, and_from, le-leb, lt-ltb, eq-eqb, eqb-true, or_left, or_right}
use Rattle.mp_base.proofs.Members.{Member}
use Rattle.lam_geom.specs.declared.layer.Layer.{Layer}
use Rattle.lam_geom.specs.declared.layer.Layer.TheVariants.{NC}
use Rattle.lam_geom.specs.Squares.{Square, ShareEdge, covered, rank}
use Rattle.lam_geom.specs.Chains.{Chain}
use Rattle.lam_geom.specs.Chains.Chain.{here, link}
use Rattle.switch_net.specs.Conductors.{Conducts, Joined}
use Rattle.switch_net.specs.Conductors.Joined.{beside, contact}
use Rattle.tile_cells.specs.declared.tile.Tile.{Tile}
use Rattle.tile_cells.specs.declared.tile.Tile.TheVariants.{TapL, TapR, Tran, PullUp, Under}
use Rattle.tile_cells.specs.Tiles.{Cell}
use Rattle.fabric.specs.declared.thing.Side.{Side}
use Rattle.fabric.specs.declared.thing.Side.TheVariants.{L, R}
use Rattle.fabric.specs.declared.thing.Mark.{Mark}
use Rattle.fabric.specs.Plan.{Plan, bands, rows_of, Passes, IsFabric, Stands}
use Rattle.fabric.specs.Shape.{shape}
use Rattle.fabric.specs.Switches.{Net, IsNet, LineOf, SegmentOf, IsTapOn, Tapped}
use Rattle.fabric.specs.Switches.Net.{segment, line, ground, power as the_power}
use Rattle.fabric.specs.Switches.Tapped.{up, down}
use Rattle.fabric_laws.proofs.Tile.{Thing, cells_of, Here, MarkAt, Inside}
use Rattle.fabric_laws.proofs.Tile.Thing.{trunk, power, ground_start, ground_on, rail, rail_end, seg, lin, mark}
use Rattle.fabric_laws.proofs.Tile.Thing.{under_rail}
use Rattle.fabric_laws.proofs.Lists.{every, every_at}
use Rattle.fabric_laws.proofs.Local.{local_of}
use Rattle.fabric.proofs.Lying.{segment_lies, some_rows}
use Rattle.fabric_laws.proofs.Spots.{SameTile, RightTile, UpperTile, NextBand, same_place, to_right, upward, move}
use Rattle.fabric_laws.proofs.Spots.ToRight.{inside as right_inside, across}
use Rattle.fabric_laws.proofs.Spots.Upward.{inside as up_inside, upper, next}
use Rattle.fabric_laws.proofs.Zones.{IsCol, IsRow, row_at, here_col, here_row, one_col, are_together, mark_stands}
use Rattle.fabric_laws.proofs.Zones.{pull_up_line}
use Rattle.fabric_laws.proofs.Nets.{NetAt, near_segments, in_order}
use Rattle.fabric.proofs.Apart.{one_line}
use Rattle.fabric_laws.proofs.Conductors.{Owner, follows, at_part, at_cells, layer_is, they_meet, all_things, all_rows}
use Rattle.fabric_laws.proofs.Conductors.{no_buried}
use Rattle.fabric_laws.proofs.Owners.{owner_of}
use Rattle.fabric_laws.proofs.Tables.{Part, Kind, Row, Col, parts, things, rows_all, same_layer, same_kind, kind_number}
use Rattle.fabric_laws.proofs.Tables.{col_number, column_of, stands_in, right_of, upon, meets, meets_up, meets_across}
use Rattle.fabric_laws.proofs.Tables.{together, is_layer, all_pairs, one_tile, over_right, over_top, goes_right}
use Rattle.fabric_laws.proofs.Tables.{goes_up}
use Rattle.fabric_laws.proofs.Tables.{row_height, is_top, is_long, is_joined, joins, has_kind, one_tile_passes}
use Rattle.fabric_laws.proofs.Tables.{over_right_passes, over_top_passes, is_joined_passes, has_kind_passes}
use Rattle.fabric_laws.proofs.Tables.Kind.{of_ground, of_power, of_segment, of_line}
use Rattle.fabric_laws.proofs.Tables.Row.{lowest, signal, top}
use Rattle.fabric_laws.proofs.Tables.Col.{west, middle, east}

pub at_pairs : (test : Row → Thing → Part → Thing → Part → Bool) → all_pairs test ≡ true
    → (q : Row) (t : Thing) (p : Part) (s : Thing) (o : Part) → Member (parts t) p → Member (parts s) o
    → test q t p s o ≡ true
at_pairs test h q t p s o m n =
    let a = every_at (λ q. every (λ t. every (λ p. every (λ s. every (λ o. test q t p s o) (parts s)) things) (parts t))
    things) rows_all q h (all_rows q) in
    let b = every_at (λ t. every (λ p. every (λ s. every (λ o. test q t p s o) (parts s)) things) (parts t)) things t a
    (all_things t) in
    let c = every_at (λ p. every (λ s. every (λ o. test q t p s o) (parts s)) things) (parts t) p b m in
    let d = every_at (λ s. every (λ o. test q t p s o) (parts s)) things s c (all_things s) in
    every_at (λ o. test q t p s o) (parts s) o d n

by_number : ℕ → Kind
by_number zero = of_ground
by_number (suc zero) = of_power
by_number (suc (suc zero)) = of_segment
by_number (suc (suc (suc zero))) = of_line L
by_number (suc (suc (suc (suc n)))) = of_line R

number_back : (k : Kind) → by_number (kind_number k) ≡ k
unfolding by_number
number_back of_ground = refl
number_back of_power = refl
number_back of_segment = refl
number_back (of_line L) = refl
number_back (of_line R) = refl

pub one_kind : (a b : Kind) → eqb (kind_number a) (kind_number b) ≡ true → a ≡ b
one_kind a b h = sym (number_back a) ∙ ap by_number (eqb-true (kind_number a) (kind_number b) h) ∙ number_back b

pub layers_same : (p o : Part) (l : Layer) → p.cell.layer ≡ l → o.cell.layer ≡ l → same_layer p.cell o.cell ≡ true
layers_same p o l e g = eq-eqb (rank p.cell.layer) (rank o.cell.layer) (ap rank (e ∙ sym g))

pub is_right_of : (p o : Cell) (u v u2 v2 : ℕ) → u ≤ u2 → u2 ≤ u + 1 → v ≡ v2 → Inside p u v → Inside o u2 v2
    → right_of p o ≡ true
is_right_of p o u v u2 v2 h0 h1 h2 i j =
    let i0 = i.left in let i1 = i.right in let i2 = i.bottom in let i3 = i.top in
    let j0 = j.left in let j1 = j.right in let j2 = j.bottom in let j3 = j.top in
    and_from _ _ (and_from _ _ (and_from _ _ (le-leb o.x0 p.x1 (omega arith)) (lt-ltb p.x0 o.x1 (omega arith)))
    (lt-ltb p.y0 o.y1 (omega arith))) (lt-ltb o.y0 p.y1 (omega arith))

pub is_upon : (p o : Cell) (u v u2 v2 : ℕ) → u ≡ u2 → v ≤ v2 → v2 ≤ v + 1 → Inside p u v → Inside o u2 v2
    → upon p o ≡ true
is_upon p o u v u2 v2 h0 h1 h2 i j =
    let i0 = i.left in let i1 = i.right in let i2 = i.bottom in let i3 = i.top in
    let j0 = j.left in let j1 = j.right in let j2 = j.bottom in let j3 = j.top in
    and_from _ _ (and_from _ _ (and_from _ _ (le-leb o.y0 p.y1 (omega arith)) (lt-ltb p.y0 o.y1 (omega arith)))
    (lt-ltb p.x0 o.x1 (omega arith))) (lt-ltb o.x0 p.x1 (omega arith))

-- the net owns the square
pub record Owns (f : Plan) (n : Net) (s : Square) : Type 0 where
  pub owner : Owner f s.layer s.x s.y
  pub net : NetAt f owner.b owner.r owner.c owner.part.kind n

module _ (f : Plan) (w : IsFabric f) where
  -- the net of a conductor at a tile is determined
  pub one_net_here : (b r c : ℕ) (k : Kind) (n m : Net) → NetAt f b r c k n → NetAt f b r c k m → n ≡ m
  one_net_here b r c of_ground n m h g = h ∙ sym g
  one_net_here b r c of_power n m h g = h ∙ sym g
  one_net_here b r c of_segment n m (s, ms, rs, es) (t, mt, rt, et) =
      es ∙ ap segment (near_segments f w b r c c s t ms mt rs rt (omega arith) (omega arith) (in_order f w s ms)
      (in_order f w t mt)) ∙ sym et
  one_net_here b r c (of_line s) n m (l, ml, pl, el) (o, mo, po, eo) = el ∙ ap line (one_line f w s b c l o ml mo pl po)
      ∙ sym eo

  moved_net : (k : Kind) (n : Net) {b r c b2 r2 c2 : ℕ} → SameTile b r c b2 r2 c2 → NetAt f b r c k n
      → NetAt f b2 r2 c2 k n
  moved_net k n t h = move (λ b r c. NetAt f b r c k n) t h

  -- conductors of one tile that touch are of one net
  in_tile : (l : Layer) (x y x2 y2 : ℤ) (o : Owner f l x y) (p : Owner f l x2 y2) (n m : Net)
      → SameTile o.b o.r o.c p.b p.r p.c
      → (right_of o.part.cell p.part.cell || upon o.part.cell p.part.cell) ≡ true
      → NetAt f o.b o.r o.c o.part.kind n → NetAt f p.b p.r p.c p.part.kind m → n ≡ m
  in_tile l x y x2 y2 o p n m t h hn hm =
      let q = row_at f w p.b p.r p.v p.at.slot in
      let s : Here f p.b p.r p.c o.thing = move (λ b r c. Here f b r c o.thing) t o.here in
      let a = and_from _ _ (are_together f w o.thing p.thing p.b p.r p.c q.0 p.at.band q.1 s p.here)
      (and_from _ _ (layers_same o.part p.part l o.layer p.layer) h) in
      let e = follows (together q.0 o.thing p.thing
      && (same_layer o.part.cell p.part.cell && (right_of o.part.cell p.part.cell || upon o.part.cell p.part.cell)))
      (same_kind o.part p.part)
      (at_pairs one_tile one_tile_passes q.0 o.thing o.part p.thing p.part o.among p.among) a in
      let k = one_kind o.part.kind p.part.kind e in
      one_net_here p.b p.r p.c p.part.kind n m (subst (λ z. NetAt f p.b p.r p.c z n) k (moved_net o.part.kind n t hn))
      hm

  not_west : (c : ℕ) (z : Col) → 1 ≤ c → IsCol f c z → not (eqb (col_number z) 0) ≡ true
  not_west c west h i = absurd (omega arith)
  not_west c middle h i = refl
  not_west c east h i = refl

  net_right : (b r c : ℕ) (k : Kind) (n m : Net) → goes_right k ≡ true → NetAt f b r c k n → NetAt f b r (c + 1) k m
      → n ≡ m
  net_right b r c of_ground n m g h i = h ∙ sym i
  net_right b r c of_power n m g h i = h ∙ sym i
  net_right b r c of_segment n m g (s, ms, rs, es) (t, mt, rt, et) =
      es ∙ ap segment (near_segments f w b r c (c + 1) s t ms mt rs rt (omega arith) (omega arith) (in_order f w s ms)
      (in_order f w t mt)) ∙ sym et
  net_right b r c (of_line s) n m g h i = absurd (cc)

  over_the_right : (l : Layer) (x y x2 y2 : ℤ) (o : Owner f l x y) (p : Owner f l x2 y2) (n m : Net)
      → RightTile o.b o.r o.c p.b p.r p.c → o.u ≡ 9999 → p.u ≡ 0 → o.v ≡ p.v
      → NetAt f o.b o.r o.c o.part.kind n → NetAt f p.b p.r p.c p.part.kind m → n ≡ m
  over_the_right l x y x2 y2 o p n m t hu hz hv hn hm =
      let q = row_at f w o.b o.r o.v o.at.slot in
      let back_ : SameTile p.b p.r p.c o.b o.r (o.c + 1) = record
      { band = sym t.band; row = sym t.row; column = t.column } in
      let s : Here f o.b o.r (o.c + 1) p.thing = move (λ b r c. Here f b r c p.thing) back_ p.here in
      let i0 = o.inside.right in let i1 = o.inside.bottom in let i2 = o.inside.top in
      let j0 = p.inside.left in let j1 = p.inside.bottom in let j2 = p.inside.top in
      let a = and_from _ _ (not_west (o.c + 1) (column_of p.thing) (omega arith)
      (here_col f w p.thing o.b o.r (o.c + 1) s))
      (and_from _ _ (here_row f w o.thing o.b o.r o.c q.0 o.at.band o.here q.1)
      (and_from _ _ (here_row f w p.thing o.b o.r (o.c + 1) q.0 o.at.band s q.1)
      (and_from _ _ (layers_same o.part p.part l o.layer p.layer)
      (and_from _ _ (le-leb 20 o.part.cell.x1 (omega arith))
      (and_from _ _ (le-leb p.part.cell.x0 0 (omega arith))
      (and_from _ _ (lt-ltb o.part.cell.y0 p.part.cell.y1 (omega arith))
      (lt-ltb p.part.cell.y0 o.part.cell.y1 (omega arith)))))))) in
      let e = follows (not (eqb (col_number (column_of p.thing)) 0)
      && (stands_in o.thing q.0 && (stands_in p.thing q.0
      && (same_layer o.part.cell p.part.cell && (leb 20 o.part.cell.x1
      && (leb p.part.cell.x0 0 && meets_up o.part.cell p.part.cell))))))
      (same_kind o.part p.part && goes_right o.part.kind)
      (at_pairs over_right over_right_passes q.0 o.thing o.part p.thing p.part o.among p.among) a in
      let g = and_parts (same_kind o.part p.part) (goes_right o.part.kind) e in
      let k = one_kind o.part.kind p.part.kind g.0 in
      net_right o.b o.r o.c o.part.kind n m g.1 hn
      (subst (λ z. NetAt f o.b o.r (o.c + 1) z m) (sym k) (moved_net p.part.kind m back_ hm))

  -- the test over the upper edge of a tile
  over_edge : (l : Layer) (x y x2 y2 : ℤ) (o : Owner f l x y) (p : Owner f l x2 y2) (q q2 : Row) → IsRow f o.b o.r q
      → IsRow f p.b p.r q2 → o.c ≡ p.c → o.u ≡ p.u → row_height q ≤ o.part.cell.y1 → p.v ≡ 0
      → (o.part.kind ≡ p.part.kind) × (goes_up o.part.kind ≡ true) × ((not (is_top q) || is_long o.thing) ≡ true)
  over_edge l x y x2 y2 o p q q2 iq iq2 hc hu hy hv =
      let i0 = o.inside.left in let i1 = o.inside.right in
      let j0 = p.inside.left in let j1 = p.inside.right in let j2 = p.inside.bottom in
      let z = here_col f w p.thing p.b p.r p.c p.here in
      let a = and_from _ _ (one_col f w o.c (column_of o.thing) (column_of p.thing)
      (here_col f w o.thing o.b o.r o.c o.here) (subst (λ z. IsCol f z (column_of p.thing)) (sym hc) z))
      (and_from _ _ (here_row f w o.thing o.b o.r o.c q o.at.band o.here iq)
      (and_from _ _ (here_row f w p.thing p.b p.r p.c q2 p.at.band p.here iq2)
      (and_from _ _ (layers_same o.part p.part l o.layer p.layer)
      (and_from _ _ (le-leb (row_height q) o.part.cell.y1 hy)
      (and_from _ _ (le-leb p.part.cell.y0 0 (omega arith))
      (and_from _ _ (lt-ltb o.part.cell.x0 p.part.cell.x1 (omega arith))
      (lt-ltb p.part.cell.x0 o.part.cell.x1 (omega arith)))))))) in
      let e = follows (eqb (col_number (column_of o.thing)) (col_number (column_of p.thing))
      && (stands_in o.thing q
      && (stands_in p.thing q2 && (same_layer o.part.cell p.part.cell
      && (leb (row_height q) o.part.cell.y1 && (leb p.part.cell.y0 0 && meets_across o.part.cell p.part.cell))))))
      (same_kind o.part p.part && (goes_up o.part.kind && (not (is_top q) || is_long o.thing)))
      (at_pairs (λ q. over_top q q2) (every_at (λ r. all_pairs (λ q. over_top q r)) rows_all q2 over_top_passes
      (all_rows q2)) q o.thing o.part p.thing p.part o.among p.among) a in
      let g = and_parts (same_kind o.part p.part) (goes_up o.part.kind && (not (is_top q) || is_long o.thing)) e in
      let g2 = and_parts (goes_up o.part.kind) (not (is_top q) || is_long o.thing) g.1 in
      (one_kind o.part.kind p.part.kind g.0, g2.0, g2.1)

  net_upper : (b r c b2 r2 : ℕ) (k : Kind) (n m : Net) → b ≡ b2 → goes_up k ≡ true → NetAt f b r c k n
      → NetAt f b2 r2 c k m → n ≡ m
  net_upper b r c b2 r2 of_ground n m e g h i = h ∙ sym i
  net_upper b r c b2 r2 of_power n m e g h i = h ∙ sym i
  net_upper b r c b2 r2 of_segment n m e g h i = absurd (cc)
  net_upper b r c b2 r2 (of_line s) n m e g (l, ml, pl, el) (o, mo, po, eo) =
      el ∙ ap line (one_line f w s b c l o ml mo pl (subst (λ z. Passes o s z c) (sym e) po)) ∙ sym eo

  low_row : (b r : ℕ) (q : Row) → r < rows_of f b → IsRow f b r q → row_height q ≡ 12
  low_row b r lowest h i = refl
  low_row b r signal h i = refl
  low_row b r top h i = absurd (omega arith)

  over_the_top : (l : Layer) (x y x2 y2 : ℤ) (o : Owner f l x y) (p : Owner f l x2 y2) (n m : Net)
      → UpperTile f o.b o.r o.c p.b p.r p.c → o.u ≡ p.u → o.v ≡ 5999 → p.v ≡ 0
      → NetAt f o.b o.r o.c o.part.kind n → NetAt f p.b p.r p.c p.part.kind m → n ≡ m
  over_the_top l x y x2 y2 o p n m t hu hv hz hn hm =
      let q = row_at f w o.b o.r o.v o.at.slot in
      let q2 = row_at f w p.b p.r p.v p.at.slot in
      let i = o.inside.top in
      let e12 = low_row o.b o.r q.0 t.within q.1 in
      let g = over_edge l x y x2 y2 o p q.0 q2.0 q.1 q2.1 t.column hu (omega arith) hz in
      net_upper o.b o.r o.c p.b p.r o.part.kind n m t.band g.1 hn
      (subst (λ z. NetAt f p.b p.r o.c z m) (sym g.0) (subst (λ z. NetAt f p.b p.r z p.part.kind m) (sym t.column) hm))

  net_next : (t : Thing) (b r c : ℕ) (k : Kind) (n m : Net) → has_kind t k ≡ true → is_long t ≡ true → r ≡ rows_of f b
      → Here f b r c t → NetAt f b r c k n → NetAt f (suc b) 0 c k m → n ≡ m
  net_next trunk b r c of_ground n m a d e h i j = i ∙ sym j
  net_next power b r c of_power n m a d e h i j = i ∙ sym j
  net_next (lin L) b r c (of_line L) n m a d e h i j = along L h i j
    where
      along : (s : Side) → Here f b r c (lin s) → NetAt f b r c (of_line s) n → NetAt f (suc b) 0 c (of_line s) m
          → n ≡ m
      along s (l, ml, p, g) (l1, m1, p1, e1) (l2, m2, p2, e2) =
          let p0 = p.first in let p3 = p.last in
          let up_ : Passes l s (suc b) c = record {
            column = p.column;
            at_side = p.at_side;
            first = omega arith;
            last = omega arith;
          } in
          e1 ∙ ap line (one_line f w s b c l1 l m1 ml p1 p) ∙ ap line (one_line f w s (suc b) c l l2 ml m2 up_ p2)
          ∙ sym e2
  net_next (lin R) b r c (of_line R) n m a d e h i j = along R h i j
    where
      along : (s : Side) → Here f b r c (lin s) → NetAt f b r c (of_line s) n → NetAt f (suc b) 0 c (of_line s) m
          → n ≡ m
      along s (l, ml, p, g) (l1, m1, p1, e1) (l2, m2, p2, e2) =
          let p0 = p.first in let p3 = p.last in
          let up_ : Passes l s (suc b) c = record {
            column = p.column;
            at_side = p.at_side;
            first = omega arith;
            last = omega arith;
          } in
          e1 ∙ ap line (one_line f w s b c l1 l m1 ml p1 p) ∙ ap line (one_line f w s (suc b) c l l2 ml m2 up_ p2)
          ∙ sym e2
  net_next t b r c k n m a d e h i j = absurd (cc)

  top_row : (b r v : ℕ) (q : Row) → b < bands f → r ≡ rows_of f b → IsRow f b r q → q ≡ top
  top_row b r v lowest hb h i = let k = some_rows f w b hb in absurd (omega arith)
  top_row b r v signal hb h i = let k = i.1 in absurd (omega arith)
  top_row b r v top hb h i = refl

  over_the_band : (l : Layer) (x y x2 y2 : ℤ) (o : Owner f l x y) (p : Owner f l x2 y2) (n m : Net)
      → NextBand f o.b o.r o.c p.b p.r p.c → o.u ≡ p.u → o.v ≡ 17999 → p.v ≡ 0
      → NetAt f o.b o.r o.c o.part.kind n → NetAt f p.b p.r p.c p.part.kind m → n ≡ m
  over_the_band l x y x2 y2 o p n m t hu hv hz hn hm =
      let i = o.inside.top in
      let q2 = row_at f w p.b p.r p.v p.at.slot in
      let g = over_edge l x y x2 y2 o p top q2.0 t.last q2.1 t.column hu (omega arith) hz in
      let tile : SameTile p.b p.r p.c (suc o.b) 0 o.c = record { band = t.band; row = t.row; column = sym t.column } in
      net_next o.thing o.b o.r o.c o.part.kind n m
      (at_part (λ t p. has_kind t p.kind) has_kind_passes o.thing o.part o.among) g.2 t.last o.here hn
      (subst (λ z. NetAt f (suc o.b) 0 o.c z m) (sym g.0) (moved_net p.part.kind m tile hm))

  -- a square and its right neighbour, on one layer, are of one net; a square and its upper one too
  pub right_net : (l : Layer) (x y z : ℤ) → z ≡ x +ℤ pos 1 → (o : Owner f l x y) (p : Owner f l z y) (n m : Net)
      → NetAt f o.b o.r o.c o.part.kind n → NetAt f p.b p.r p.c p.part.kind m → n ≡ m
  right_net l x y z e o p n m hn hm = elim (to_right f o.b o.r o.c o.u o.v p.b p.r p.c p.u p.v x y z e o.at p.at) [
    | right_inside t hu hv ↦ in_tile l x y z y o p n m t
        (or_left _ _ (is_right_of o.part.cell p.part.cell o.u o.v p.u p.v (omega arith)
        (omega arith) hv o.inside p.inside)) hn hm
    | across t hu hz hv ↦ over_the_right l x y z y o p n m t hu hz hv hn hm
  ]

  pub upper_net : (l : Layer) (x y z : ℤ) → z ≡ y +ℤ pos 1 → (o : Owner f l x y) (p : Owner f l x z) (n m : Net)
      → NetAt f o.b o.r o.c o.part.kind n → NetAt f p.b p.r p.c p.part.kind m → n ≡ m
  upper_net l x y z e o p n m hn hm = elim (upward f o.b o.r o.c o.u o.v p.b p.r p.c p.u p.v x y z e o.at p.at) [
    | up_inside t hu hv ↦ in_tile l x y x z o p n m t
        (or_right _ _ (is_upon o.part.cell p.part.cell o.u o.v p.u p.v hu (omega arith)
        (omega arith) o.inside p.inside)) hn hm
    | upper t hu hv hz ↦ over_the_top l x y x z o p n m t hu hv hz hn hm
    | next t hu hv hz ↦ over_the_band l x y x z o p n m t hu hv hz hn hm
  ]

  pub shared_net : (l : Layer) (x y : ℤ) (o p : Owner f l x y) (n m : Net) → NetAt f o.b o.r o.c o.part.kind n
      → NetAt f p.b p.r p.c p.part.kind m → n ≡ m
  shared_net l x y o p n m hn hm =
      let e = same_place f o.b o.r o.c o.u o.v p.b p.r p.c p.u p.v x y o.at p.at in
      in_tile l x y x y o p n m e.tile
      (or_left _ _ (is_right_of o.part.cell p.part.cell o.u o.v p.u p.v (omega (arith, e.across))
      (omega (arith, e.across)) e.up o.inside p.inside)) hn hm

  abbrev pub at_layer : (l m : Layer) (x y : ℤ) → l ≡ m → Owner f l x y → Owner f m x y
  at_layer l m x y e o = record {
    b = o.b;
    r = o.r;
    c = o.c;
    u = o.u;
    v = o.v;
    at = o.at;
    thing = o.thing;
    here = o.here;
    part = o.part;
    among = o.among;
    layer = o.layer ∙ e;
    inside = o.inside;
  }

  abbrev pub at_square : (l : Layer) (x y x2 y2 : ℤ) → x ≡ x2 → y ≡ y2 → Owner f l x y → Owner f l x2 y2
  at_square l x y x2 y2 e g o = record {
    b = o.b;
    r = o.r;
    c = o.c;
    u = o.u;
    v = o.v;
    at = record {
      band = o.at.band;
      slot = o.at.slot;
      at_x = sym e ∙ o.at.at_x;
      at_y = sym g ∙ o.at.at_y;
      in_x = o.at.in_x;
    };
    thing = o.thing;
    here = o.here;
    part = o.part;
    among = o.among;
    layer = o.layer;
    inside = o.inside;
  }

  beside_net : (l : Layer) (x y x2 y2 : ℤ) (o : Owner f l x y) (p : Owner f l x2 y2) (n m : Net)
      → NetAt f o.b o.r o.c o.part.kind n → NetAt f p.b p.r p.c p.part.kind m
      → (y ≡ y2) × (x2 ≡ x +ℤ pos 1 ⊎ x ≡ x2 +ℤ pos 1) ⊎ (x ≡ x2) × (y2 ≡ y +ℤ pos 1 ⊎ y ≡ y2 +ℤ pos 1) → n ≡ m
  beside_net l x y x2 y2 o p n m hn hm (inl (g, inl h)) = right_net l x y x2 h o
      (at_square l x2 y2 x2 y refl (sym g) p) n m hn hm
  beside_net l x y x2 y2 o p n m hn hm (inl (g, inr h)) = sym
      (right_net l x2 y2 x h p (at_square l x y x y2 refl g o) m n hm hn)
  beside_net l x y x2 y2 o p n m hn hm (inr (g, inl h)) = upper_net l x y y2 h o
      (at_square l x2 y2 x y2 (sym g) refl p) n m hn hm
  beside_net l x y x2 y2 o p n m hn hm (inr (g, inr h)) = sym
      (upper_net l x2 y2 y h p (at_square l x y x2 y g refl o) m n hm hn)

  -- Squares of one layer that share an edge are of one net.
  pub edge_net : (s t : Square) (n m : Net) → s.layer ≡ t.layer → ShareEdge s t → Owns f n s → Owns f m t → n ≡ m
  edge_net s t n m e j hn hm = beside_net t.layer s.x s.y t.x t.y (at_layer s.layer t.layer s.x s.y e hn.owner) hm.owner
      n m hn.net hm.net j

  -- Nets of one square are one.
  pub square_net : (s : Square) (n m : Net) → Owns f n s → Owns f m s → n ≡ m
  square_net s n m hn hm = shared_net s.layer s.x s.y hn.owner hm.owner n m hn.net hm.net

  -- ---- cuts
  same_joins : (v : Thing) (k : Cell) (a b : Kind) → joins v k a ≡ true → joins v k b ≡ true
      → (a ≡ b) ⊎ (v ≡ mark TapL) ⊎ (v ≡ mark TapR)
  same_joins (mark TapL) k a b h g = inr (inl refl)
  same_joins (mark TapR) k a b h g = inr (inr refl)
  same_joins (mark Tran) k a b h g = inl
      (one_kind a b (eq-eqb _ _ (eqb-true (kind_number a) 2 h ∙ sym (eqb-true (kind_number b) 2 g))))
  same_joins (mark Under) k a b h g = inl
      (one_kind a b (eq-eqb _ _ (eqb-true (kind_number a) 2 h ∙ sym (eqb-true (kind_number b) 2 g))))
  same_joins under_rail k a b h g = inl
      (one_kind a b (eq-eqb _ _ (eqb-true (kind_number a) 1 h ∙ sym (eqb-true (kind_number b) 1 g))))
  same_joins (mark PullUp) k a b h g = inl
      (one_kind a b (eq-eqb _ _ (by_height (leb 27 k.y0) (kind_number a) (kind_number b) h g)))
    where
      by_height : (z : Bool) (i j : ℕ) → ((z && eqb i 1) || (not z && eqb i 3)) ≡ true
          → ((z && eqb j 1) || (not z && eqb j 3)) ≡ true → i ≡ j
      by_height z i j h g = grind arith
  same_joins trunk k a b h g = absurd (cc)
  same_joins power k a b h g = absurd (cc)
  same_joins ground_start k a b h g = absurd (cc)
  same_joins ground_on k a b h g = absurd (cc)
  same_joins rail k a b h g = absurd (cc)
  same_joins rail_end k a b h g = absurd (cc)
  same_joins seg k a b h g = absurd (cc)
  same_joins (lin s) k a b h g = absurd (cc)

  -- a kind that a tap joins
  data TapKind (s : Side) (k : Kind) : Type 0 where
    its_line : k ≡ of_line s → TapKind s k
    its_ground : k ≡ of_ground → TapKind s k
    its_segment : k ≡ of_segment → TapKind s k

  tap_left : (k : Cell) (a : Kind) → joins (mark TapL) k a ≡ true → TapKind L a
  tap_left k of_ground h = its_ground refl
  tap_left k of_power h = absurd (cc)
  tap_left k of_segment h = its_segment refl
  tap_left k (of_line L) h = its_line refl
  tap_left k (of_line R) h = absurd (cc)

  tap_right : (k : Cell) (a : Kind) → joins (mark TapR) k a ≡ true → TapKind R a
  tap_right k of_ground h = its_ground refl
  tap_right k of_power h = absurd (cc)
  tap_right k of_segment h = its_segment refl
  tap_right k (of_line L) h = absurd (cc)
  tap_right k (of_line R) h = its_line refl

  -- ground stands in row 0 of each column but the first
  ground_row_ : (t : Thing) (b r c : ℕ) → has_kind t of_ground ≡ true → 1 ≤ c → Here f b r c t → r ≡ 0
  ground_row_ trunk b r c a h i = absurd (omega arith)
  ground_row_ ground_start b r c a h i = i.1
  ground_row_ ground_on b r c a h i = i.2
  ground_row_ (lin L) b r c a h i = absurd (cc)
  ground_row_ (lin R) b r c a h i = absurd (cc)
  ground_row_ (mark TapL) b r c a h i = absurd (cc)
  ground_row_ (mark TapR) b r c a h i = absurd (cc)
  ground_row_ (mark Tran) b r c a h i = absurd (cc)
  ground_row_ (mark PullUp) b r c a h i = absurd (cc)
  ground_row_ (mark Under) b r c a h i = absurd (cc)
  ground_row_ t b r c a h i = absurd (cc)

  segment_of : (b r c : ℕ) (n : Net) → 1 ≤ c → NetAt f b r c of_segment n → (mk : Mark) → mk.band ≡ b → mk.row ≡ r
      → mk.column ≡ c → SegmentOf f mk n
  segment_of b r c n h (s, ms, inl p, e) mk eb er ec = record {
    the_segment = s;
    among = ms;
    is = e;
    crosses = record {
      band = p.band ∙ sym eb;
      row = p.row ∙ sym er;
      first = subst (λ z. s.first ≤ z) (sym ec) p.first;
      last = subst (λ z. z ≤ s.last) (sym ec) p.last;
    };
  }
  segment_of b r c n h (s, ms, inr p, e) mk eb er ec = let p0 = p.0 in absurd (omega arith)

  -- the two conductors at the cut of a tap
  at_tap : (s : Side) (t : Tile) → IsTapOn s t → (b r c : ℕ) → MarkAt f t b r c → 1 ≤ c → (b < bands f)
      → (a d : Kind) (n m : Net) (ta td : Thing) → has_kind ta a ≡ true → has_kind td d ≡ true → Here f b r c ta
      → Here f b r c td
      → TapKind s a → TapKind s d → NetAt f b r c a n → NetAt f b r c d m → Chain (Tapped f) n m
  at_tap s t it b r c mk hc hb a d n m ta td ka kd ha hd za zd hn hm = go za zd
    where
      same : a ≡ d → Chain (Tapped f) n m
      same e = subst (λ z. Chain (Tapped f) n z) (one_net_here b r c d n m (subst (λ z. NetAt f b r c z n) e hn) hm)
          here

      tile_is : IsTapOn s mk.mark_.tile
      tile_is = subst (IsTapOn s) (sym mk.tile) it

      line_there : (k : Kind) (n : Net) → k ≡ of_line s → NetAt f b r c k n → LineOf f mk.mark_ s n
      line_there k n e h = of (subst (λ z. NetAt f b r c z n) e h)
        where
          of : NetAt f b r c (of_line s) n → LineOf f mk.mark_ s n
          of (l, ml, p, g) = record {
            the_line = l;
            among = ml;
            is = g;
            passes = record {
              column = p.column ∙ sym mk.column;
              at_side = p.at_side;
              first = subst (λ z. l.first_band ≤ z) (sym mk.band) p.first;
              last = subst (λ z. z ≤ l.last_band)
                  (sym mk.band) p.last;
            };
          }

      on_ground : (t : Thing) (k : Kind) (n : Net) → k ≡ of_ground → has_kind t k ≡ true → Here f b r c t
          → NetAt f b r c k n → (mk.mark_.row ≡ 0) × (n ≡ ground)
      on_ground t k n e g h i =
          (mk.row ∙ ground_row_ t b r c (subst (λ z. has_kind t z ≡ true) e g) hc h, subst (λ z. NetAt f b r c z n) e i)

      on_segment : (k : Kind) (n : Net) → k ≡ of_segment → NetAt f b r c k n → SegmentOf f mk.mark_ n
      on_segment k n e h = segment_of b r c n hc (subst (λ z. NetAt f b r c z n) e h) mk.mark_ mk.band mk.row mk.column

      clash : (t : Thing) (k k2 : Kind) (n : Net) → k ≡ of_ground → has_kind t k ≡ true → Here f b r c t
          → k2 ≡ of_segment → NetAt f b r c k2 n → ⊥
      clash t k k2 n e g h e2 i =
          let r0 = ground_row_ t b r c (subst (λ z. has_kind t z ≡ true) e g) hc h in
          let s = segment_of b r c n hc (subst (λ z. NetAt f b r c z n) e2 i) mk.mark_ mk.band mk.row mk.column in
          let j = (segment_lies f w s.the_segment s.among).row in let k = s.crosses.row in let l = mk.row in
          omega arith

      go : TapKind s a → TapKind s d → Chain (Tapped f) n m
      go (its_line e) (its_line g) = same (e ∙ sym g)
      go (its_ground e) (its_ground g) = same (e ∙ sym g)
      go (its_segment e) (its_segment g) = same (e ∙ sym g)
      go (its_line e) (its_ground g) = link
          (up (record {
            mark = mk.mark_;
            among = mk.among;
            side = s;
            tile = tile_is;
            the_line = line_there a n e hn;
            other = inl (on_ground td d m g kd hd hm);
          })) here
      go (its_line e) (its_segment g) = link
          (up (record {
            mark = mk.mark_;
            among = mk.among;
            side = s;
            tile = tile_is;
            the_line = line_there a n e hn;
            other = inr (on_segment d m g hm);
          })) here
      go (its_ground e) (its_line g) = link
          (down (record {
            mark = mk.mark_;
            among = mk.among;
            side = s;
            tile = tile_is;
            the_line = line_there d m g hm;
            other = inl (on_ground ta a n e ka ha hn);
          })) here
      go (its_segment e) (its_line g) = link
          (down (record {
            mark = mk.mark_;
            among = mk.among;
            side = s;
            tile = tile_is;
            the_line = line_there d m g hm;
            other = inr (on_segment a n e hn);
          })) here
      go (its_ground e) (its_segment g) = absurd (clash ta a d m e ka ha g hm)
      go (its_segment e) (its_ground g) = absurd (clash td d a n g kd hd e hn)

  middle_of : (c : ℕ) → IsCol f c middle → 1 ≤ c
  middle_of c h = h.0

  -- the conductors of two nets on one cut
  cut_nets : (l l2 : Layer) (x y : ℤ) (o : Owner f l x y) (p : Owner f l2 x y) (n m : Net)
      → NetAt f o.b o.r o.c o.part.kind n → NetAt f p.b p.r p.c p.part.kind m → covered (shape f) NC x y
      → Chain (Tapped f) n m
  cut_nets l l2 x y o p n m hn hm h =
      let k = local_of f w NC x y h in
      let eo = same_place f o.b o.r o.c o.u o.v k.b k.r k.c k.u k.v x y o.at k.at in
      let ep = same_place f p.b p.r p.c p.u p.v k.b k.r k.c k.u k.v x y p.at k.at in
      let q = row_at f w k.b k.r k.v k.at.slot in
      let so : Here f k.b k.r k.c o.thing = move (λ b r c. Here f b r c o.thing) eo.tile o.here in
      let sp : Here f k.b k.r k.c p.thing = move (λ b r c. Here f b r c p.thing) ep.tile p.here in
      let io : Inside o.part.cell k.u k.v = subst (λ z. Inside o.part.cell z k.v) eo.across
      (subst (λ z. Inside o.part.cell o.u z) eo.up o.inside) in
      let ip : Inside p.part.cell k.u k.v = subst (λ z. Inside p.part.cell z k.v) ep.across
      (subst (λ z. Inside p.part.cell p.u z) ep.up p.inside) in
      let no : NetAt f k.b k.r k.c o.part.kind n = moved_net o.part.kind n eo.tile hn in
      let np : NetAt f k.b k.r k.c p.part.kind m = moved_net p.part.kind m ep.tile hm in
      let ao = joined_kind q.0 o.thing o.part k.thing k.cell o.among k.among
      (and_from _ _ (are_together f w o.thing k.thing k.b k.r k.c q.0 k.at.band q.1 so k.here)
      (and_from _ _ (layer_is NC k.cell k.layer) (they_meet o.part.cell k.cell k.u k.v io k.inside))) in
      let ap_ = joined_kind q.0 p.thing p.part k.thing k.cell p.among k.among
      (and_from _ _ (are_together f w p.thing k.thing k.b k.r k.c q.0 k.at.band q.1 sp k.here)
      (and_from _ _ (layer_is NC k.cell k.layer) (they_meet p.part.cell k.cell k.u k.v ip k.inside))) in
      let ko = at_part (λ t p. has_kind t p.kind) has_kind_passes o.thing o.part o.among in
      let kp = at_part (λ t p. has_kind t p.kind) has_kind_passes p.thing p.part p.among in
      by k.thing k.cell k.b k.r k.c k.at.band k.here o.part.kind p.part.kind o.thing p.thing ko kp so sp ao ap_ no np
    where
      joined_kind : (q : Row) (t : Thing) (p : Part) (s : Thing) (k : Cell) → Member (parts t) p → Member (cells_of s) k
          → (together q t s && (is_layer NC k && meets p.cell k)) ≡ true → joins s k p.kind ≡ true
      joined_kind q t p s k m i a = follows (together q t s && (is_layer NC k && meets p.cell k)) (joins s k p.kind)
          (at_cells is_joined is_joined_passes q t p s k m i) a

      by : (v : Thing) (k : Cell) (b r c : ℕ) → b < bands f → Here f b r c v → (a d : Kind) (t s : Thing)
          → has_kind t a ≡ true → has_kind s d ≡ true → Here f b r c t → Here f b r c s
          → joins v k a ≡ true → joins v k d ≡ true → NetAt f b r c a n → NetAt f b r c d m → Chain (Tapped f) n m
      by v k b r c hb hv a d t s kt ks ht hs ja jd hn hm = go v hv ja jd (same_joins v k a d ja jd)
        where
          equal : a ≡ d → Chain (Tapped f) n m
          equal e = subst (λ z. Chain (Tapped f) n z) (one_net_here b r c d n m
              (subst (λ z. NetAt f b r c z n) e hn) hm) here

          go : (v : Thing) → Here f b r c v → joins v k a ≡ true → joins v k d ≡ true
              → (a ≡ d) ⊎ (v ≡ mark TapL) ⊎ (v ≡ mark TapR) → Chain (Tapped f) n m
          go v hv ja jd (inl e) = equal e
          go v hv ja jd (inr (inl e)) =
              let h : Here f b r c (mark TapL) = subst (Here f b r c) e hv in
              at_tap L TapL refl b r c h.0 (middle_of c (here_col f w (mark TapL) b r c h)) hb a d n m t s kt ks ht hs
              (tap_left k a (subst (λ z. joins z k a ≡ true) e ja))
              (tap_left k d (subst (λ z. joins z k d ≡ true) e jd)) hn hm
          go v hv ja jd (inr (inr e)) =
              let h : Here f b r c (mark TapR) = subst (Here f b r c) e hv in
              at_tap R TapR refl b r c h.0 (middle_of c (here_col f w (mark TapR) b r c h)) hb a d n m t s kt ks ht hs
              (tap_right k a (subst (λ z. joins z k a ≡ true) e ja))
              (tap_right k d (subst (λ z. joins z k d ≡ true) e jd)) hn hm

  -- Joined squares are of one net, or a tap joins their nets.
  pub join_nets : (s t : Square) (n m : Net) → Joined (covered (shape f)) s t → Owns f n s → Owns f m t
      → Chain (Tapped f) n m
  join_nets s t n m (beside j) hn hm = subst (λ z. Chain (Tapped f) n z) (edge_net s t n m j.same j.beside hn hm) here
  join_nets s t n m (contact j) hn hm = elim j.by [
    | inl h ↦ cut_nets s.layer t.layer s.x s.y hn.owner (at_square t.layer t.x t.y s.x s.y (sym j.x) (sym j.y) hm.owner)
        n m hn.net hm.net h
    | inr h ↦ absurd (no_buried f w s.x s.y h.0)
  ]

  -- ---- each conductor has a net
  pub net_of : (t : Thing) (k : Kind) (b r c : ℕ) → has_kind t k ≡ true → Here f b r c t
      → (n : Net) × IsNet f n × NetAt f b r c k n
  net_of trunk of_ground b r c h i = (ground, tt, refl)
  net_of power of_power b r c h i = (the_power, tt, refl)
  net_of ground_start of_ground b r c h i = (ground, tt, refl)
  net_of ground_on of_ground b r c h i = (ground, tt, refl)
  net_of rail of_power b r c h i = (the_power, tt, refl)
  net_of rail_end of_power b r c h i = (the_power, tt, refl)
  net_of seg of_segment b r c h i = (segment i.segment, i.among, (i.segment, i.among, inl i.crosses, refl))
  net_of (lin L) (of_line L) b r c h (l, ml, p, g) = (line l, ml, (l, ml, p, refl))
  net_of (lin R) (of_line R) b r c h (l, ml, p, g) = (line l, ml, (l, ml, p, refl))
  net_of (mark Tran) (of_line L) b r c h i = let s = (mark_stands f w Tran b r c i.0).0 in
      (line s.line, s.among, (s.line, s.among, s.passes, refl))
  net_of (mark Tran) (of_line R) b r c h i = let s = (mark_stands f w Tran b r c i.0).1 in
      (line s.line, s.among, (s.line, s.among, s.passes, refl))
  net_of (mark Tran) of_segment b r c h i = let s = (mark_stands f w Tran b r c i.0).2 in
      (segment s.segment, s.among, (s.segment, s.among, inl s.crosses, refl))
  net_of (mark PullUp) (of_line L) b r c h i = let s = pull_up_line f w b r c i.0 in
      (line s.line, s.among, (s.line, s.among, s.passes, refl))
  net_of (mark PullUp) of_power b r c h i = (the_power, tt, refl)
  net_of (mark Under) of_segment b r c h i = go (mark_stands f w Under b r c i.0)
    where
      go : Stands f Under b r c → (n : Net) × IsNet f n × NetAt f b r c of_segment n
      go (e, g, inl k) = let j = i.1 refl in absurd (omega arith)
      go (e, g, inr (s, ms, p, q, o)) = (segment s, ms, (s, ms, inr (e, p, q, o), refl))
  net_of under_rail of_power b r c h i = (the_power, tt, refl)
  net_of t k b r c h i = absurd (cc)

  pub owned : (s : Square) → Conducts (covered (shape f)) s → (n : Net) × IsNet f n × Owns f n s
  owned s h =
      let o = owner_of f w s.layer s.x s.y h in
      let k = net_of o.thing o.part.kind o.b o.r o.c
      (at_part (λ t p. has_kind t p.kind) has_kind_passes o.thing o.part o.among) o.here in
      (k.0, k.1, record { owner = o; net = k.2 })

  net_is : (b r c : ℕ) (k : Kind) (n : Net) → NetAt f b r c k n → IsNet f n
  net_is b r c of_ground n h = subst (IsNet f) (sym h) tt
  net_is b r c of_power n h = subst (IsNet f) (sym h) tt
  net_is b r c of_segment n (s, ms, rs, e) = subst (IsNet f) (sym e) ms
  net_is b r c (of_line s) n (l, ml, p, e) = subst (IsNet f) (sym e) ml

  pub owns_net : (s : Square) (n : Net) → Owns f n s → IsNet f n
  owns_net s n h = net_is h.owner.b h.owner.r h.owner.c h.owner.part.kind n h.net
