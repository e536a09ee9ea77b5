-- The conductors and the channels, tile by tile.
use Rattle.std.proofs.Common.{ℕ, ◌≡◌, ◌≤◌, ◌⊎◌, inl, inr, refl, ap, subst, arith, Bool, true, not}
use Rattle.std.proofs.Common.{◌&&◌, ◌||◌, leb}
use Rattle.std.specs.Prelude.{ℤ}
use Rattle.std.proofs.lemmas.Bool.{and_parts, and_from, or_cases, leb-true, eq-eqb, lt-ltb}
use Rattle.mp_base.proofs.Members.{Member}
use Rattle.lam_geom.specs.declared.layer.Layer.{Layer}
use Rattle.lam_geom.specs.declared.layer.Layer.TheVariants.{ND, NP, NB}
use Rattle.lam_geom.specs.Squares.{covered, rank}
use Rattle.lam_geom.proofs.Ranks.{one_layer}
use Rattle.switch_net.specs.Conductors.{IsChannel}
use Rattle.tile_cells.specs.declared.tile.Tile.TheVariants.{TapL, TapR, Tran, PullUp, Under}
use Rattle.tile_cells.specs.Tiles.{Cell}
use Rattle.fabric.specs.declared.thing.Side.TheVariants.{L, R}
use Rattle.fabric.specs.Plan.{Plan, IsFabric}
use Rattle.fabric.specs.Shape.{shape}
use Rattle.fabric_laws.proofs.Tile.{Thing, cells_of, Here, Inside, At}
use Rattle.fabric_laws.proofs.Tile.Thing.{trunk, power, ground_start, ground_on, rail, rail_end, seg, lin, mark}
use Rattle.fabric_laws.proofs.Tile.Thing.{under_rail}
use Rattle.fabric_laws.proofs.Lists.{every, every_at, some, some_at}
use Rattle.fabric_laws.proofs.Local.{local_of}
use Rattle.fabric_laws.proofs.Back.{drawn_at}
use Rattle.fabric_laws.proofs.Spots.{same_place, move}
use Rattle.fabric_laws.proofs.Zones.{row_at, are_together}
use Rattle.fabric_laws.proofs.Tables.{Part, Row, parts, channels, things, implies, lies_in, meets, covers_both}
use Rattle.fabric_laws.proofs.Tables.{same_thing}
use Rattle.fabric_laws.proofs.Tables.{together, is_layer, rows_all, every_part, every_cell, every_channel, all_cells}
use Rattle.fabric_laws.proofs.Tables.{all_drawn, is_gated, is_unburied, is_crossing, is_gated_passes}
use Rattle.fabric_laws.proofs.Tables.{is_unburied_passes}
use Rattle.fabric_laws.proofs.Tables.{is_crossing_passes}
use Rattle.fabric_laws.proofs.Tables.Row.{lowest, signal, top}

-- ---- members of the tables
pub all_things : (t : Thing) → Member things t
all_things trunk = inl refl
all_things power = inr (inl refl)
all_things ground_start = inr (inr (inl refl))
all_things ground_on = inr (inr (inr (inl refl)))
all_things rail = inr (inr (inr (inr (inl refl))))
all_things rail_end = inr (inr (inr (inr (inr (inl refl)))))
all_things seg = inr (inr (inr (inr (inr (inr (inl refl))))))
all_things (lin L) = inr (inr (inr (inr (inr (inr (inr (inl refl)))))))
all_things (lin R) = inr (inr (inr (inr (inr (inr (inr (inr (inl refl))))))))
all_things (mark TapL) = inr (inr (inr (inr (inr (inr (inr (inr (inr (inl refl)))))))))
all_things (mark TapR) = inr (inr (inr (inr (inr (inr (inr (inr (inr (inr (inl refl))))))))))
all_things (mark Tran) = inr (inr (inr (inr (inr (inr (inr (inr (inr (inr (inr (inl refl)))))))))))
all_things (mark PullUp) = inr (inr (inr (inr (inr (inr (inr (inr (inr (inr (inr (inr (inl refl))))))))))))
all_things (mark Under) = inr (inr (inr (inr (inr (inr (inr (inr (inr (inr (inr (inr (inr (inl refl)))))))))))))
all_things under_rail = inr (inr (inr (inr (inr (inr (inr (inr (inr (inr (inr (inr (inr (inr (inl refl))))))))))))))

pub all_rows : (q : Row) → Member rows_all q
all_rows lowest = inl refl
all_rows signal = inr (inl refl)
all_rows top = inr (inr (inl refl))

pub follows : (a b : Bool) → implies a b ≡ true → a ≡ true → b ≡ true
follows a b h k = grind arith

pub at_part : (test : Thing → Part → Bool) → every_part test ≡ true → (t : Thing) (p : Part) → Member (parts t) p
    → test t p ≡ true
at_part test h t p m = every_at (λ p. test t p) (parts t) p
    (every_at (λ t. every (λ p. test t p) (parts t)) things t h (all_things t)) m

pub at_cell : (test : Thing → Cell → Bool) → every_cell test ≡ true → (t : Thing) (p : Cell) → Member (cells_of t) p
    → test t p ≡ true
at_cell test h t p m = every_at (λ p. test t p) (cells_of t) p
    (every_at (λ t. every (λ p. test t p) (cells_of t)) things t h (all_things t)) m

pub at_channel : (test : Thing → Cell → Bool) → every_channel test ≡ true → (t : Thing) (p : Cell)
    → Member (channels t) p → test t p ≡ true
at_channel test h t p m = every_at (λ p. test t p) (channels t) p
    (every_at (λ t. every (λ p. test t p) (channels t)) things t h (all_things t)) m

pub at_cells : (test : Row → Thing → Part → Thing → Cell → Bool) → all_cells test ≡ true
    → (q : Row) (t : Thing) (p : Part) (s : Thing) (k : Cell) → Member (parts t) p → Member (cells_of s) k
    → test q t p s k ≡ true
at_cells test h q t p s k m n =
    let a = every_at (λ q. every (λ t. every (λ p. every (λ s. every (λ k. test q t p s k) (cells_of s)) things)
    (parts t)) things) rows_all q h (all_rows q) in
    let b = every_at (λ t. every (λ p. every (λ s. every (λ k. test q t p s k) (cells_of s)) things) (parts t)) things t
    a (all_things t) in
    let c = every_at (λ p. every (λ s. every (λ k. test q t p s k) (cells_of s)) things) (parts t) p b m in
    let d = every_at (λ s. every (λ k. test q t p s k) (cells_of s)) things s c (all_things s) in
    every_at (λ k. test q t p s k) (cells_of s) k d n

pub at_drawn : (test : Row → Thing → Cell → Thing → Cell → Bool) → all_drawn test ≡ true
    → (q : Row) (t : Thing) (p : Cell) (s : Thing) (k : Cell) → Member (cells_of t) p → Member (cells_of s) k
    → test q t p s k ≡ true
at_drawn test h q t p s k m n =
    let a = every_at (λ q. every (λ t. every (λ p. every (λ s. every (λ k. test q t p s k) (cells_of s)) things)
    (cells_of t)) things) rows_all q h (all_rows q) in
    let b = every_at (λ t. every (λ p. every (λ s. every (λ k. test q t p s k) (cells_of s)) things) (cells_of t))
    things t a (all_things t) in
    let c = every_at (λ p. every (λ s. every (λ k. test q t p s k) (cells_of s)) things) (cells_of t) p b m in
    let d = every_at (λ s. every (λ k. test q t p s k) (cells_of s)) things s c (all_things s) in
    every_at (λ k. test q t p s k) (cells_of s) k d n

-- ---- layers, and places in cells
pub layer_is : (l : Layer) (k : Cell) → k.layer ≡ l → is_layer l k ≡ true
layer_is l k e = eq-eqb (rank k.layer) (rank l) (ap rank e)

pub in_larger : (p k : Cell) (u v : ℕ) → lies_in p k ≡ true → Inside p u v → Inside k u v
in_larger p k u v h i =
    let a = and_parts (leb k.x0 p.x0) (leb p.x1 k.x1 && (leb k.y0 p.y0 && leb p.y1 k.y1)) h in
    let b = and_parts (leb p.x1 k.x1) (leb k.y0 p.y0 && leb p.y1 k.y1) a.1 in
    let c = and_parts (leb k.y0 p.y0) (leb p.y1 k.y1) b.1 in
    let a0 = leb-true k.x0 p.x0 a.0 in let b0 = leb-true p.x1 k.x1 b.0 in let c0 = leb-true k.y0 p.y0 c.0 in
    let c1 = leb-true p.y1 k.y1 c.1 in
    let i0 = i.left in let i1 = i.right in let i2 = i.bottom in let i3 = i.top in
    record { left = omega arith; right = omega arith; bottom = omega arith; top = omega arith }

pub they_meet : (p k : Cell) (u v : ℕ) → Inside p u v → Inside k u v → meets p k ≡ true
they_meet p k u v i j =
    let i0 = i.left in let i1 = i.right in let i2 = i.bottom in let i3 = i.top in
    let j0 = j.left in let j1 = j.right in let j2 = j.bottom in let j3 = j.top in
    and_from _ _ (and_from _ _ (and_from _ _ (lt-ltb p.x0 k.x1 (omega arith)) (lt-ltb k.x0 p.x1 (omega arith)))
    (lt-ltb p.y0 k.y1 (omega arith))) (lt-ltb k.y0 p.y1 (omega arith))

or_leb : (a b c : ℕ) → (leb a b || leb a c) ≡ true → (a ≤ b) ⊎ (a ≤ c)
or_leb a b c h = elim (or_cases (leb a b) (leb a c) h) [ inl e ↦ inl (leb-true a b e) | inr e ↦ inr (leb-true a c e) ]

or_leb_under : (a b c : ℕ) → (leb b a || leb c a) ≡ true → (b ≤ a) ⊎ (c ≤ a)
or_leb_under a b c h = elim (or_cases (leb b a) (leb c a) h)
    [ inl e ↦ inl (leb-true b a e) | inr e ↦ inr (leb-true c a e) ]

in_both : (h p k : Cell) (u v : ℕ) → covers_both h p k ≡ true → Inside p u v → Inside k u v → Inside h u v
in_both h p k u v e i j =
    let a = and_parts (leb h.x0 p.x0 || leb h.x0 k.x0) ((leb p.x1 h.x1 || leb k.x1 h.x1)
    && ((leb h.y0 p.y0 || leb h.y0 k.y0) && (leb p.y1 h.y1 || leb k.y1 h.y1))) e in
    let b = and_parts (leb p.x1 h.x1 || leb k.x1 h.x1) ((leb h.y0 p.y0 || leb h.y0 k.y0)
    && (leb p.y1 h.y1 || leb k.y1 h.y1)) a.1 in
    let c = and_parts (leb h.y0 p.y0 || leb h.y0 k.y0) (leb p.y1 h.y1 || leb k.y1 h.y1) b.1 in
    let a0 = or_leb h.x0 p.x0 k.x0 a.0 in let b0 = or_leb_under h.x1 p.x1 k.x1 b.0 in
    let c0 = or_leb h.y0 p.y0 k.y0 c.0 in let c1 = or_leb_under h.y1 p.y1 k.y1 c.1 in
    let i0 = i.left in let i1 = i.right in let i2 = i.bottom in let i3 = i.top in
    let j0 = j.left in let j1 = j.right in let j2 = j.bottom in let j3 = j.top in
    record { left = omega arith; right = omega arith; bottom = omega arith; top = omega arith }

-- a conductor at a square
pub record Owner (f : Plan) (l : Layer) (x y : ℤ) : Type 0 where
  pub b : ℕ
  pub r : ℕ
  pub c : ℕ
  pub u : ℕ
  pub v : ℕ
  pub at : At f b r c u v x y
  pub thing : Thing
  pub here : Here f b r c thing
  pub part : Part
  pub among : Member (parts thing) part
  pub layer : part.cell.layer ≡ l
  pub inside : Inside part.cell u v

-- a channel at a place
pub record Crossing (f : Plan) (x y : ℤ) : Type 0 where
  pub b : ℕ
  pub r : ℕ
  pub c : ℕ
  pub u : ℕ
  pub v : ℕ
  pub at : At f b r c u v x y
  pub thing : Thing
  pub here : Here f b r c thing
  pub cell : Cell
  pub among : Member (channels thing) cell
  pub inside : Inside cell u v

module _ (f : Plan) (w : IsFabric f) where
  pub no_buried : (x y : ℤ) → covered (shape f) NB x y → ⊥
  no_buried x y h =
      let k = local_of f w NB x y h in
      let e = at_cell is_unburied is_unburied_passes k.thing k.cell k.among in
      let g = layer_is NB k.cell k.layer in
      contradiction (is_layer NB k.cell) e g
    where
      contradiction : (a : Bool) → not a ≡ true → a ≡ true → ⊥
      contradiction a h k = grind arith

  pub drawn_larger : (t : Thing) (k p : Cell) (l : Layer) (b r c u v : ℕ) (x y : ℤ) → Member (cells_of t) k
      → k.layer ≡ l → lies_in p k ≡ true → Here f b r c t → At f b r c u v x y → Inside p u v → covered (shape f) l x y
  drawn_larger t k p l b r c u v x y m e h i a j = subst (λ z. covered (shape f) z x y) e
      (drawn_at f w t k b r c u v x y m i a (in_larger p k u v h j))

  -- What is drawn as a channel is one.
  pub crossing_is : (x y : ℤ) → Crossing f x y → IsChannel (covered (shape f)) x y
  crossing_is x y h =
      let e = and_parts (some (λ k. is_layer NP k && lies_in h.cell k) (cells_of h.thing))
      (some (λ k. is_layer ND k && lies_in h.cell k) (cells_of h.thing))
      (at_channel is_gated is_gated_passes h.thing h.cell h.among) in
      let p = some_at (λ k. is_layer NP k && lies_in h.cell k) (cells_of h.thing) e.0 in
      let d = some_at (λ k. is_layer ND k && lies_in h.cell k) (cells_of h.thing) e.1 in
      let p0 = and_parts (is_layer NP p.0) (lies_in h.cell p.0) p.2 in
      let d0 = and_parts (is_layer ND d.0) (lies_in h.cell d.0) d.2 in
      record {
        gate = drawn_larger h.thing p.0 h.cell NP h.b h.r h.c h.u h.v x y p.1
            (one_layer p.0.layer NP p0.0) p0.1 h.here h.at h.inside;
        diffusion = drawn_larger h.thing d.0 h.cell ND h.b h.r h.c h.u h.v x y d.1
            (one_layer d.0.layer ND d0.0) d0.1 h.here h.at h.inside;
        unburied = λ n. no_buried x y n;
      }

  same_thing_is : (t s : Thing) → same_thing t s ≡ true → t ≡ s
  same_thing_is (mark Tran) (mark Tran) h = refl
  same_thing_is (mark PullUp) (mark PullUp) h = refl
  same_thing_is t s h = absurd (cc)

  -- A channel is drawn as one.
  pub crossing_of : (x y : ℤ) → IsChannel (covered (shape f)) x y → Crossing f x y
  crossing_of x y h =
      let p = local_of f w NP x y h.gate in
      let d = local_of f w ND x y h.diffusion in
      let e = same_place f p.b p.r p.c p.u p.v d.b d.r d.c d.u d.v x y p.at d.at in
      let q = row_at f w d.b d.r d.v d.at.slot in
      let s : Here f d.b d.r d.c p.thing = move (λ b r c. Here f b r c p.thing) e.tile p.here in
      let i : Inside p.cell d.u d.v = subst (λ z. Inside p.cell z d.v) e.across
      (subst (λ z. Inside p.cell p.u z) e.up p.inside) in
      let t = and_from _ _ (are_together f w d.thing p.thing d.b d.r d.c q.0 d.at.band q.1 d.here s)
      (and_from _ _ (layer_is ND d.cell d.layer) (and_from _ _ (layer_is NP p.cell p.layer)
      (they_meet d.cell p.cell d.u d.v d.inside i))) in
      let g = follows (together q.0 d.thing p.thing
      && (is_layer ND d.cell && (is_layer NP p.cell && meets d.cell p.cell)))
      (same_thing d.thing p.thing && some (λ h. covers_both h d.cell p.cell) (channels d.thing))
      (at_drawn is_crossing is_crossing_passes q.0 d.thing d.cell p.thing p.cell d.among p.among) t in
      let g0 = and_parts (same_thing d.thing p.thing) (some (λ h. covers_both h d.cell p.cell) (channels d.thing)) g in
      let k = some_at (λ h. covers_both h d.cell p.cell) (channels d.thing) g0.1 in
      record {
        b = d.b;
        r = d.r;
        c = d.c;
        u = d.u;
        v = d.v;
        at = d.at;
        thing = d.thing;
        here = d.here;
        cell = k.0;
        among = k.1;
        inside = in_both k.0 d.cell p.cell d.u d.v k.2 d.inside i;
      }
