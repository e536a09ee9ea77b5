-- Each conductor square is of a conductor of its tile, and each of these conducts.
use Rattle.std.proofs.Common.{ℕ, ◌≡◌, ◌+◌, ◌≤◌, inl, inr, refl, sym, ◌∙◌, ap, subst, arith, false, ◌&&◌, leb}
use Rattle.std.specs.Prelude.{ℤ}
use Rattle.std.proofs.lemmas.Bool.{and_parts, and_from, leb-true, le-leb, cases_lt}
use Rattle.mp_base.proofs.Members.{Member}
use Rattle.lam_geom.specs.declared.layer.Layer.{Layer}
use Rattle.lam_geom.specs.declared.layer.Layer.TheVariants.{ND, NP, NC, NM, NI, NB, NG}
use Rattle.lam_geom.specs.Squares.{covered, rank}
use Rattle.lam_geom.proofs.Ranks.{one_layer}
use Rattle.switch_net.specs.Conductors.{IsChannel, ConductsOn}
use Rattle.tile_cells.specs.declared.tile.Tile.TheVariants.{TapL, TapR, Tran, PullUp, Under}
use Rattle.tile_cells.specs.Tiles.{Cell, cell}
use Rattle.fabric.specs.declared.thing.Side.TheVariants.{L, R}
use Rattle.fabric.specs.Plan.{Plan, IsFabric}
use Rattle.fabric.specs.Shape.{offset, shape}
use Rattle.fabric_laws.proofs.Tile.{Thing, cells_of, Here, Inside}
use Rattle.fabric_laws.proofs.Tile.Thing.{trunk, power, ground_start, ground_on, rail, rail_end, seg, lin, mark}
use Rattle.fabric_laws.proofs.Tile.Thing.{under_rail}
use Rattle.fabric_laws.proofs.Lists.{some, some_at}
use Rattle.fabric_laws.proofs.Local.{local_of}
use Rattle.fabric_laws.proofs.Spots.{same_place, move}
use Rattle.fabric_laws.proofs.Zones.{row_at, are_together}
use Rattle.fabric_laws.proofs.Conductors.{Owner, follows, at_part, at_cell, at_cells, layer_is, in_larger}
use Rattle.fabric_laws.proofs.Conductors.{they_meet, drawn_larger, crossing_is}
use Rattle.fabric_laws.proofs.Tables.{Part, part, parts, channels, same_layer, lies_in, meets, together, is_layer}
use Rattle.fabric_laws.proofs.Tables.{is_drawn}
use Rattle.fabric_laws.proofs.Tables.{is_part, is_clear, is_drawn_passes, is_part_passes, is_clear_passes}
use Rattle.fabric_laws.proofs.Tables.Kind.{of_power, of_line}

-- a place of a thing's diffusion is in a conductor, or in a channel
pub data Split (t : Thing) (u v : ℕ) : Type 0 where
  conducts : (p : Part) → Member (parts t) p → p.cell.layer ≡ ND → Inside p.cell u v → Split t u v
  crosses : (h : Cell) → Member (channels t) h → Inside h u v → Split t u v

-- the cell with those numbers
at_numbers : (P : Cell → Type 0) (k k0 : Cell) → k0 ≡ k → P k → P k0
at_numbers P k k0 e h = subst P (sym e) h

other_layer : (l : Layer) (k0 k : Cell) → k0 ≡ k → k.layer ≡ ND → (k0.layer ≡ ND → ⊥) → ⊥
other_layer l k0 k e h n = n (ap (λ z. z.layer) e ∙ h)

pub split : (t : Thing) (k : Cell) (u v : ℕ) → Member (cells_of t) k → k.layer ≡ ND → Inside k u v → Split t u v
split trunk k u v (inl e) h i = absurd (other_layer NM (cell NM 7 0 13 36) k e h (λ q. cc (q)))
split power k u v (inl e) h i = absurd (other_layer NM (cell NM 7 0 13 36) k e h (λ q. cc (q)))
split ground_start k u v (inl e) h i = absurd (other_layer NM (cell NM 7 6 20 10) k e h (λ q. cc (q)))
split ground_on k u v (inl e) h i = absurd (other_layer NM (cell NM 0 6 20 10) k e h (λ q. cc (q)))
split rail k u v (inl e) h i = absurd (other_layer NM (cell NM 0 27 20 31) k e h (λ q. cc (q)))
split rail_end k u v (inl e) h i = absurd (other_layer NM (cell NM 0 27 13 31) k e h (λ q. cc (q)))
split seg k u v (inl e) h i = absurd (other_layer NM (cell NM 0 6 20 10) k e h (λ q. cc (q)))
split (lin s) k u v (inl e) h i = conducts (part (of_line s) ND (offset s) 0 (offset s + 4) 36) (inl refl) refl
    (at_numbers (λ z. Inside z u v) k _ e i)
split (mark TapL) k u v (inl e) h i = absurd (other_layer NC (cell NC 3 7 5 9) k e h (λ q. cc (q)))
split (mark TapR) k u v (inl e) h i = absurd (other_layer NC (cell NC 15 7 17 9) k e h (λ q. cc (q)))
split (mark Tran) k u v (inl e) h i =
    let j : Inside (cell ND 6 2 14 4) u v = at_numbers (λ z. Inside z u v) k _ e i in
    let j0 = j.left in let j1 = j.right in let j2 = j.bottom in let j3 = j.top in
    elim (cases_lt u 4500) [
      | inl a ↦ conducts (part (of_line L) ND 6 2 9 4) (inl refl) refl
          (record { left = omega arith; right = omega arith; bottom = omega arith; top = omega arith })
      | inr a ↦ elim (cases_lt u 5500) [
        | inl b ↦ crosses (cell NP 9 2 11 4) (inl refl)
            (record { left = omega arith; right = omega arith; bottom = omega arith; top = omega arith })
        | inr b ↦ conducts (part (of_line R) ND 11 2 14 4) (inr (inl refl)) refl
            (record { left = omega arith; right = omega arith; bottom = omega arith; top = omega arith })
      ]
    ]
split (mark Tran) k u v (inr (inl e)) h i = absurd (other_layer NP (cell NP 9 0 11 6) k e h (λ q. cc (q)))
split (mark Tran) k u v (inr (inr (inl e))) h i = absurd (other_layer NP (cell NP 8 6 12 10) k e h (λ q. cc (q)))
split (mark Tran) k u v (inr (inr (inr (inl e)))) h i = absurd (other_layer NC (cell NC 9 7 11 9) k e h (λ q. cc (q)))
split (mark Tran) k u v (inr (inr (inr (inr e)))) h i = absurd e
split (mark PullUp) k u v (inl e) h i = conducts (part (of_line L) ND 2 0 6 6) (inl refl) refl
    (at_numbers (λ z. Inside z u v) k _ e i)
split (mark PullUp) k u v (inr (inl e)) h i = absurd (other_layer NC (cell NC 3 3 5 5) k e h (λ q. cc (q)))
split (mark PullUp) k u v (inr (inr (inl e))) h i = absurd (other_layer NM (cell NM 2 2 12 6) k e h (λ q. cc (q)))
split (mark PullUp) k u v (inr (inr (inr (inl e)))) h i = absurd (other_layer NP (cell NP 8 2 12 8) k e h (λ q. cc (q)))
split (mark PullUp) k u v (inr (inr (inr (inr (inl e))))) h i = absurd
    (other_layer NC (cell NC 9 3 11 5) k e h (λ q. cc (q)))
split (mark PullUp) k u v (inr (inr (inr (inr (inr (inl e)))))) h i = absurd
    (other_layer NP (cell NP 1 8 12 24) k e h (λ q. cc (q)))
split (mark PullUp) k u v (inr (inr (inr (inr (inr (inr (inl e))))))) h i =
    let j : Inside (cell ND 3 6 5 27) u v = at_numbers (λ z. Inside z u v) k _ e i in
    let j0 = j.left in let j1 = j.right in let j2 = j.bottom in let j3 = j.top in
    elim (cases_lt v 4000) [
      | inl a ↦ conducts (part (of_line L) ND 3 6 5 8) (inr (inr (inr (inr (inl refl))))) refl
          (record { left = omega arith; right = omega arith; bottom = omega arith; top = omega arith })
      | inr a ↦ elim (cases_lt v 12000) [
        | inl b ↦ crosses (cell NP 3 8 5 24) (inl refl)
            (record { left = omega arith; right = omega arith; bottom = omega arith; top = omega arith })
        | inr b ↦ conducts (part of_power ND 3 24 5 27) (inr (inr (inr (inr (inr (inl refl)))))) refl
            (record { left = omega arith; right = omega arith; bottom = omega arith; top = omega arith })
      ]
    ]
split (mark PullUp) k u v (inr (inr (inr (inr (inr (inr (inr (inl e)))))))) h i =
    conducts (part of_power ND 2 27 6 31) (inr (inr (inr (inr (inr (inr (inl refl))))))) refl
    (at_numbers (λ z. Inside z u v) k _ e i)
split (mark PullUp) k u v (inr (inr (inr (inr (inr (inr (inr (inr (inl e))))))))) h i = absurd
    (other_layer NC (cell NC 3 28 5 30) k e h (λ q. cc (q)))
split (mark PullUp) k u v (inr (inr (inr (inr (inr (inr (inr (inr (inr (inl e)))))))))) h i = absurd
    (other_layer NI (cell NI 1 6 7 26) k e h (λ q. cc (q)))
split (mark PullUp) k u v (inr (inr (inr (inr (inr (inr (inr (inr (inr (inr e)))))))))) h i = absurd e
split (mark Under) k u v (inl e) h i = absurd (other_layer NM (cell NM 0 6 4 10) k e h (λ q. cc (q)))
split (mark Under) k u v (inr (inl e)) h i = absurd (other_layer NM (cell NM 16 6 20 10) k e h (λ q. cc (q)))
split (mark Under) k u v (inr (inr (inl e))) h i = absurd (other_layer NP (cell NP 0 6 20 10) k e h (λ q. cc (q)))
split (mark Under) k u v (inr (inr (inr (inl e)))) h i = absurd (other_layer NC (cell NC 1 7 3 9) k e h (λ q. cc (q)))
split (mark Under) k u v (inr (inr (inr (inr (inl e))))) h i = absurd
    (other_layer NC (cell NC 17 7 19 9) k e h (λ q. cc (q)))
split (mark Under) k u v (inr (inr (inr (inr (inr e))))) h i = absurd e
split under_rail k u v (inl e) h i = absurd (other_layer NM (cell NM 0 27 4 31) k e h (λ q. cc (q)))
split under_rail k u v (inr (inl e)) h i = absurd (other_layer NM (cell NM 16 27 20 31) k e h (λ q. cc (q)))
split under_rail k u v (inr (inr (inl e))) h i = absurd (other_layer NP (cell NP 0 27 20 31) k e h (λ q. cc (q)))
split under_rail k u v (inr (inr (inr (inl e)))) h i = absurd (other_layer NC (cell NC 1 28 3 30) k e h (λ q. cc (q)))
split under_rail k u v (inr (inr (inr (inr (inl e))))) h i = absurd
    (other_layer NC (cell NC 17 28 19 30) k e h (λ q. cc (q)))
split under_rail k u v (inr (inr (inr (inr (inr e))))) h i = absurd e
split trunk k u v (inr m) h i = absurd m
split power k u v (inr m) h i = absurd m
split ground_start k u v (inr m) h i = absurd m
split ground_on k u v (inr m) h i = absurd m
split rail k u v (inr m) h i = absurd m
split rail_end k u v (inr m) h i = absurd m
split seg k u v (inr m) h i = absurd m
split (lin s) k u v (inr m) h i = absurd m
split (mark TapL) k u v (inr m) h i = absurd m
split (mark TapR) k u v (inr m) h i = absurd m

module _ (f : Plan) (w : IsFabric f) where
  -- metal and polysilicon
  solid_owner : (l : Layer) (x y : ℤ) → rank l ≤ 1 → covered (shape f) l x y → Owner f l x y
  solid_owner l x y n h =
      let k = local_of f w l x y h in
      let e0 : rank k.cell.layer ≤ 1 = subst (λ z. rank z ≤ 1) (sym k.layer) n in
      let e = follows (leb (rank k.cell.layer) 1) (some (λ p. same_layer p.cell k.cell && lies_in k.cell p.cell)
      (parts k.thing)) (at_cell is_part is_part_passes k.thing k.cell k.among) (le-leb (rank k.cell.layer) 1 e0) in
      let p = some_at (λ p. same_layer p.cell k.cell && lies_in k.cell p.cell) (parts k.thing) e in
      let g = and_parts (same_layer p.0.cell k.cell) (lies_in k.cell p.0.cell) p.2 in
      record {
        b = k.b;
        r = k.r;
        c = k.c;
        u = k.u;
        v = k.v;
        at = k.at;
        thing = k.thing;
        here = k.here;
        part = p.0;
        among = p.1;
        layer = one_layer p.0.cell.layer k.cell.layer g.0 ∙ k.layer;
        inside = in_larger k.cell p.0.cell k.u k.v g.1 k.inside;
      }

  diffusion_owner : (x y : ℤ) → covered (shape f) ND x y → ¬ IsChannel (covered (shape f)) x y → Owner f ND x y
  diffusion_owner x y h n =
      let k = local_of f w ND x y h in
      elim (split k.thing k.cell k.u k.v k.among k.layer k.inside) [
        | conducts p m e i ↦ record {
          b = k.b;
          r = k.r;
          c = k.c;
          u = k.u;
          v = k.v;
          at = k.at;
          thing = k.thing;
          here = k.here;
          part = p;
          among = m;
          layer = e;
          inside = i;
        }
        | crosses c m i ↦ absurd
            (n
            (crossing_is f w x y (record {
              b = k.b;
              r = k.r;
              c = k.c;
              u = k.u;
              v = k.v;
              at = k.at;
              thing = k.thing;
              here = k.here;
              cell = c;
              among = m;
              inside = i;
            })))
      ]

  -- Each conductor is one of a thing of its tile.
  pub owner_of : (l : Layer) (x y : ℤ) → ConductsOn (covered (shape f)) l x y → Owner f l x y
  owner_of NM x y h = solid_owner NM x y (omega arith) h
  owner_of NP x y h = solid_owner NP x y (omega arith) h
  owner_of ND x y h = diffusion_owner x y h.0 h.1
  owner_of NC x y h = absurd h
  owner_of NI x y h = absurd h
  owner_of NB x y h = absurd h
  owner_of NG x y h = absurd h

  clear : (x y : ℤ) (o : Owner f ND x y) → IsChannel (covered (shape f)) x y → ⊥
  clear x y o h =
      let k = local_of f w NP x y h.gate in
      let e = same_place f k.b k.r k.c k.u k.v o.b o.r o.c o.u o.v x y k.at o.at in
      let q = row_at f w o.b o.r o.v o.at.slot in
      let s : Here f o.b o.r o.c k.thing = move (λ b r c. Here f b r c k.thing) e.tile k.here in
      let i : Inside k.cell o.u o.v = subst (λ z. Inside k.cell z o.v) e.across
      (subst (λ z. Inside k.cell k.u z) e.up k.inside) in
      let t = and_from _ _ (are_together f w o.thing k.thing o.b o.r o.c q.0 o.at.band q.1 o.here s)
      (and_from _ _ (layer_is ND o.part.cell o.layer)
      (and_from _ _ (layer_is NP k.cell k.layer) (they_meet o.part.cell k.cell o.u o.v o.inside i))) in
      let g = follows (together q.0 o.thing k.thing
      && (is_layer ND o.part.cell && (is_layer NP k.cell && meets o.part.cell k.cell))) false
      (at_cells is_clear is_clear_passes q.0 o.thing o.part k.thing k.cell o.among k.among) t in
      absurd (cc)

  -- What is drawn as a conductor conducts.
  pub owner_conducts : (l : Layer) (x y : ℤ) → Owner f l x y → ConductsOn (covered (shape f)) l x y
  owner_conducts l x y o =
      let e = and_parts (leb (rank o.part.cell.layer) 2)
      (some (λ k. same_layer k o.part.cell && lies_in o.part.cell k) (cells_of o.thing))
      (at_part is_drawn is_drawn_passes o.thing o.part o.among) in
      let k = some_at (λ k. same_layer k o.part.cell && lies_in o.part.cell k) (cells_of o.thing) e.1 in
      let g = and_parts (same_layer k.0 o.part.cell) (lies_in o.part.cell k.0) k.2 in
      let h : covered (shape f) l x y = drawn_larger f w o.thing k.0 o.part.cell l o.b o.r o.c o.u o.v x y k.1
      (one_layer k.0.layer o.part.cell.layer g.0 ∙ o.layer) g.1 o.here o.at o.inside in
      let n : rank l ≤ 2 = subst (λ z. rank z ≤ 2) o.layer (leb-true (rank o.part.cell.layer) 2 e.0) in
      go l o h n
    where
      go : (l : Layer) → Owner f l x y → covered (shape f) l x y → rank l ≤ 2 → ConductsOn (covered (shape f)) l x y
      go NM o h n = h
      go NP o h n = h
      go ND o h n = (h, λ c. clear x y o c)
      go NC o h n = absurd (omega arith)
      go NI o h n = absurd (omega arith)
      go NB o h n = absurd (omega arith)
      go NG o h n = absurd (omega arith)
