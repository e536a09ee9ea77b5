-- Each transistor and each pull-up has one channel, and there is no other.
use Rattle.std.proofs.Common.{ℕ, ◌≡◌, ◌+◌, ◌*◌, ◌-◌, ◌<◌, ◌≤◌, ◌⊎◌, inl, inr, refl, sym, ◌∙◌, ap, subst, arith, Bool}
use Rattle.std.proofs.Common.{true, ◌&&◌, ◌||◌, leb, Contains}
use Rattle.std.specs.Prelude.{ℤ, pos}
use Rattle.std.proofs.lemmas.Int.{ints}
use Rattle.std.proofs.lemmas.Bool.{and_parts, and_from, or_cases, leb-true}
use Rattle.mp_base.proofs.Members.{Member}
use Rattle.lam_geom.specs.declared.layer.Layer.{Layer}
use Rattle.lam_geom.specs.declared.layer.Layer.TheVariants.{ND, NP, NI}
use Rattle.lam_geom.specs.declared.rect.Rect.{Rect}
use Rattle.lam_geom.specs.Squares.{Square, ShareEdge, Adjoin, IsIn, covered, RectanglesAreJoined}
use Rattle.lam_geom.specs.Chains.{Chain}
use Rattle.lam_geom.specs.Chains.Chain.{here, link}
use Rattle.switch_net.specs.Conductors.{IsChannelSquare}
use Rattle.tile_cells.specs.declared.tile.Tile.{Tile}
use Rattle.tile_cells.specs.declared.tile.Tile.TheVariants.{TapL, TapR, Tran, PullUp, Under}
use Rattle.tile_cells.specs.Tiles.{Cell, cell}
use Rattle.fabric.specs.declared.thing.Side.{Side}
use Rattle.fabric.specs.declared.thing.Side.TheVariants.{L, R}
use Rattle.fabric.specs.declared.thing.Mark.{Mark}
use Rattle.fabric.specs.Plan.{Plan, bands, rows_of, IsFabric}
use Rattle.fabric.specs.Shape.{base, shape}
use Rattle.fabric.specs.Switches.{Net, LineOf, HasGate, HasEnd}
use Rattle.fabric.specs.Switches.Net.{segment, line}
use Rattle.fabric_laws.proofs.Tile.{Thing, cells_of, Here, MarkAt, Inside, At, Slot}
use Rattle.fabric_laws.proofs.Tile.Thing.{trunk, power, ground_start, ground_on, rail, rail_end, seg, lin, mark}
use Rattle.fabric_laws.proofs.Tile.Thing.{under_rail}
use Rattle.fabric_laws.proofs.Lists.{every, every_at, some, some_at}
use Rattle.fabric_laws.proofs.Heights.{natural}
use Rattle.fabric_laws.proofs.Local.{local_of}
use Rattle.fabric.proofs.Lying.{MarkLies, mark_lies, RowOf}
use Rattle.fabric_laws.proofs.Spots.{SameTile, same_place, to_right, upward, move, back}
use Rattle.fabric_laws.proofs.Spots.ToRight.{inside as right_inside, across}
use Rattle.fabric_laws.proofs.Spots.Upward.{inside as up_inside, upper, next}
use Rattle.fabric_laws.proofs.Nets.{NetAt}
use Rattle.fabric.proofs.Apart.{one_mark}
use Rattle.fabric_laws.proofs.Zones.{row_at, are_together, mark_stands, pull_up_line}
use Rattle.fabric_laws.proofs.Conductors.{follows, at_channel, all_things, all_rows, layer_is, they_meet}
use Rattle.fabric_laws.proofs.Conductors.{drawn_larger, crossing_is, crossing_of}
use Rattle.fabric_laws.proofs.Joins.{Owns, is_right_of, is_upon}
use Rattle.lam_geom.proofs.Chains.{map_chain}
use Rattle.lam_geom.proofs.Ranks.{one_layer}
use Rattle.fabric_laws.proofs.Tables.{Part, Kind, Row, parts, channels, things, rows_all, all_ends, all_implants}
use Rattle.fabric_laws.proofs.Tables.{is_beside}
use Rattle.fabric_laws.proofs.Tables.{is_inner, is_bare, is_implanted, is_pull_up, ends_at, right_of, upon, together}
use Rattle.fabric_laws.proofs.Tables.{is_layer, lies_in, meets, is_beside_passes, is_inner_passes, is_bare_passes}
use Rattle.fabric_laws.proofs.Tables.{is_implanted_passes}
use Rattle.fabric_laws.proofs.Tables.Kind.{of_ground, of_power, of_segment, of_line}

pub at_ends : (test : Row → Thing → Cell → Thing → Part → Bool) → all_ends test ≡ true
    → (q : Row) (t : Thing) (h : Cell) (s : Thing) (p : Part) → Member (channels t) h → Member (parts s) p
    → test q t h s p ≡ true
at_ends test g q t h s p m n =
    let a = every_at (λ q. every (λ t. every (λ h. every (λ s. every (λ p. test q t h s p) (parts s)) things)
    (channels t)) things) rows_all q g (all_rows q) in
    let b = every_at (λ t. every (λ h. every (λ s. every (λ p. test q t h s p) (parts s)) things) (channels t)) things t
    a (all_things t) in
    let c = every_at (λ h. every (λ s. every (λ p. test q t h s p) (parts s)) things) (channels t) h b m in
    let d = every_at (λ s. every (λ p. test q t h s p) (parts s)) things s c (all_things s) in
    every_at (λ p. test q t h s p) (parts s) p d n

at_implants : (test : Row → Thing → Cell → Thing → Cell → Bool) → all_implants test ≡ true
    → (q : Row) (t : Thing) (h : Cell) (s : Thing) (k : Cell) → Member (channels t) h → Member (cells_of s) k
    → test q t h s k ≡ true
at_implants test g q t h s k m n =
    let a = every_at (λ q. every (λ t. every (λ h. every (λ s. every (λ k. test q t h s k) (cells_of s)) things)
    (channels t)) things) rows_all q g (all_rows q) in
    let b = every_at (λ t. every (λ h. every (λ s. every (λ k. test q t h s k) (cells_of s)) things) (channels t))
    things t a (all_things t) in
    let c = every_at (λ h. every (λ s. every (λ k. test q t h s k) (cells_of s)) things) (channels t) h b m in
    let d = every_at (λ s. every (λ k. test q t h s k) (cells_of s)) things s c (all_things s) in
    every_at (λ k. test q t h s k) (cells_of s) k d n

-- the square is one of the mark's channel
pub record OfMark (f : Plan) (m : Mark) (s : Square) : Type 0 where
  pub in_marks : Contains f.marks m
  pub layer : s.layer ≡ NP
  pub u : ℕ
  pub v : ℕ
  pub at : At f m.band m.row m.column u v s.x s.y
  pub cell : Cell
  pub among : Member (channels (mark m.tile)) cell
  pub inside : Inside cell u v

-- the tile has a channel
abbrev pub IsSwitchTile : Tile → Type 0
IsSwitchTile t = (t ≡ Tran) ⊎ (t ≡ PullUp)

pub has_channel : (t : Tile) (k : Cell) → Member (channels (mark t)) k → IsSwitchTile t
has_channel TapL k m = absurd m
has_channel TapR k m = absurd m
has_channel Tran k m = inl refl
has_channel PullUp k m = inr refl
has_channel Under k m = absurd m

no_under : (t : Tile) → IsSwitchTile t → t ≡ Under → ⊥
no_under t (inl e) g = let h : Tran ≡ Under = sym e ∙ g in cc (h)
no_under t (inr e) g = let h : PullUp ≡ Under = sym e ∙ g in cc (h)

module _ (f : Plan) (w : IsFabric f) where
  pub here_mark : (m : Mark) → Contains f.marks m → IsSwitchTile m.tile → Here f m.band m.row m.column (mark m.tile)
  here_mark m h g = (
    record { mark_ = m; among = h; tile = refl; band = refl; row = refl; column = refl },
    λ e. absurd (no_under m.tile g e),
  )

  mark_at : (s : Square) → s.layer ≡ NP → (t : Tile) (k : Cell) (b r c u v : ℕ) → At f b r c u v s.x s.y
      → MarkAt f t b r c → Member (channels (mark t)) k → Inside k u v → (m : Mark) × OfMark f m s
  mark_at s e t k b r c u v a m i j = (
    m.mark_,
    record {
      in_marks = m.among;
      layer = e;
      u = u;
      v = v;
      at = move (λ b r c. At f b r c u v s.x s.y) (back (record { band = m.band; row = m.row; column = m.column })) a;
      cell = k;
      among = subst (λ z. Member (channels (mark z)) k) (sym m.tile) i;
      inside = j;
    },
  )

  thing_mark : (s : Square) → s.layer ≡ NP → (t : Thing) (k : Cell) (b r c u v : ℕ) → At f b r c u v s.x s.y
      → Here f b r c t → Member (channels t) k → Inside k u v → (m : Mark) × OfMark f m s
  thing_mark s e (mark t) k b r c u v a h i j = mark_at s e t k b r c u v a h.0 i j
  thing_mark s e trunk k b r c u v a h i j = absurd i
  thing_mark s e power k b r c u v a h i j = absurd i
  thing_mark s e ground_start k b r c u v a h i j = absurd i
  thing_mark s e ground_on k b r c u v a h i j = absurd i
  thing_mark s e rail k b r c u v a h i j = absurd i
  thing_mark s e rail_end k b r c u v a h i j = absurd i
  thing_mark s e seg k b r c u v a h i j = absurd i
  thing_mark s e (lin z) k b r c u v a h i j = absurd i
  thing_mark s e under_rail k b r c u v a h i j = absurd i

  -- A channel square is one of a mark's channel,
  pub mark_of : (s : Square) → IsChannelSquare (covered (shape f)) s → (m : Mark) × OfMark f m s
  mark_of s h = let c = crossing_of f w s.x s.y h.1 in thing_mark s h.0 c.thing c.cell c.b c.r c.c c.u c.v c.at c.here
      c.among c.inside

  -- and each of these is a channel square.
  pub of_mark : (m : Mark) (s : Square) → OfMark f m s → IsChannelSquare (covered (shape f)) s
  of_mark m s o = (
    o.layer,
    crossing_is f w s.x s.y (record {
      b = m.band;
      r = m.row;
      c = m.column;
      u = o.u;
      v = o.v;
      at = o.at;
      thing = mark m.tile;
      here = here_mark m o.in_marks (has_channel m.tile o.cell o.among);
      cell = o.cell;
      among = o.among;
      inside = o.inside;
    }),
  )

  -- ---- neighbours of a channel
  pub record Inner (m : Mark) (u v : ℕ) : Type 0 where
    pub left : 500 ≤ u
    pub right : u < 9500
    pub bottom : 500 ≤ v
    pub top : (v < 5500) ⊎ (m.row ≡ rows_of f m.band) × (v < 17500)

  pull_up_row : (m : Mark) → Contains f.marks m → is_pull_up (mark m.tile) ≡ true → m.row ≡ rows_of f m.band
  pull_up_row m h e = go m.tile e (mark_lies f w m h)
    where
      go : (t : Tile) → is_pull_up (mark t) ≡ true → MarkLies f t m.band m.row m.column → m.row ≡ rows_of f m.band
      go TapL e l = absurd (cc)
      go TapR e l = absurd (cc)
      go Tran e l = absurd (cc)
      go PullUp e l = l.row
      go Under e l = absurd (cc)

  pub inner : (m : Mark) (s : Square) (o : OfMark f m s) → Inner m o.u o.v
  inner m s o =
      let a = and_parts (leb 1 o.cell.x0)
      (leb o.cell.x1 19 && (leb 1 o.cell.y0 && (leb o.cell.y1 11 || is_pull_up (mark m.tile) && leb o.cell.y1 35)))
      (at_channel is_inner is_inner_passes (mark m.tile) o.cell o.among) in
      let b = and_parts (leb o.cell.x1 19)
      (leb 1 o.cell.y0 && (leb o.cell.y1 11 || is_pull_up (mark m.tile) && leb o.cell.y1 35)) a.1 in
      let c = and_parts (leb 1 o.cell.y0) (leb o.cell.y1 11 || is_pull_up (mark m.tile) && leb o.cell.y1 35) b.1 in
      let a0 = leb-true 1 o.cell.x0 a.0 in let b0 = leb-true o.cell.x1 19 b.0 in let c0 = leb-true 1 o.cell.y0 c.0 in
      let i0 = o.inside.left in let i1 = o.inside.right in let i2 = o.inside.bottom in let i3 = o.inside.top in
      record {
        left = omega arith;
        right = omega arith;
        bottom = omega arith;
        top = elim (or_cases (leb o.cell.y1 11) (is_pull_up (mark m.tile) && leb o.cell.y1 35) c.1) [
          | inl e ↦ (let d = leb-true o.cell.y1 11 e in inl (omega arith))
          | inr e ↦ (let g = and_parts (is_pull_up (mark m.tile)) (leb o.cell.y1 35) e in
              let d = leb-true o.cell.y1 35 g.1 in inr (pull_up_row m o.in_marks g.0, omega arith))
        ];
      }

  -- a neighbour of a channel square lies in its tile
  pub data Near (m : Mark) (u v b r c u2 v2 : ℕ) : Type 0 where
    to_right_ : SameTile m.band m.row m.column b r c → u2 ≡ u + 1 → v ≡ v2 → Near m u v b r c u2 v2
    to_left_ : SameTile m.band m.row m.column b r c → u ≡ u2 + 1 → v ≡ v2 → Near m u v b r c u2 v2
    to_top_ : SameTile m.band m.row m.column b r c → u ≡ u2 → v2 ≡ v + 1 → Near m u v b r c u2 v2
    to_bottom_ : SameTile m.band m.row m.column b r c → u ≡ u2 → v ≡ v2 + 1 → Near m u v b r c u2 v2

  at_ : (b r c u v : ℕ) (x y x2 y2 : ℤ) → x ≡ x2 → y ≡ y2 → At f b r c u v x y → At f b r c u v x2 y2
  at_ b r c u v x y x2 y2 e g a = record {
    band = a.band;
    slot = a.slot;
    at_x = sym e ∙ a.at_x;
    at_y = sym g ∙ a.at_y;
    in_x = a.in_x;
  }

  pub near : (m : Mark) (s t : Square) (o : OfMark f m s) (b r c u v : ℕ) → At f b r c u v t.x t.y → ShareEdge s t
      → Near m o.u o.v b r c u v
  near m s t o b r c u v a (inl (g, inl h)) =
      elim (to_right f m.band m.row m.column o.u o.v b r c u v s.x s.y t.x h o.at
      (at_ b r c u v t.x t.y t.x s.y refl (sym g) a)) [
        | right_inside k e d ↦ to_right_ k e d
        | across k e d q ↦ (let i = (inner m s o).right in absurd (omega arith))
      ]
  near m s t o b r c u v a (inl (g, inr h)) = elim (to_right f b r c u v m.band m.row m.column o.u o.v t.x t.y s.x h a
      (at_ m.band m.row m.column o.u o.v s.x s.y s.x t.y refl g o.at)) [
        | right_inside k e d ↦ to_left_ (back k) e (sym d)
        | across k e d q ↦ (let i = (inner m s o).left in absurd (omega arith))
      ]
  near m s t o b r c u v a (inr (g, inl h)) = elim (upward f m.band m.row m.column o.u o.v b r c u v s.x s.y t.y h o.at
      (at_ b r c u v t.x t.y s.x t.y (sym g) refl a)) [
        | up_inside k e d ↦ to_top_ k e d
        | upper k e d q ↦ (let i = (inner m s o).top in let z = k.within in absurd (omega arith))
        | next k e d q ↦ (let i = (inner m s o).top in absurd (omega arith))
      ]
  near m s t o b r c u v a (inr (g, inr h)) = elim (upward f b r c u v m.band m.row m.column o.u o.v t.x t.y s.y h a
      (at_ m.band m.row m.column o.u o.v s.x s.y t.x s.y g refl o.at)) [
        | up_inside k e d ↦ to_bottom_ (back k) (sym e) d
        | upper k e d q ↦ (let i = (inner m s o).bottom in absurd (omega arith))
        | next k e d q ↦ (let i = (inner m s o).bottom in absurd (omega arith))
      ]

  pub near_tile : {m : Mark} {u v b r c u2 v2 : ℕ} → Near m u v b r c u2 v2 → SameTile m.band m.row m.column b r c
  near_tile (to_right_ k e d) = k
  near_tile (to_left_ k e d) = k
  near_tile (to_top_ k e d) = k
  near_tile (to_bottom_ k e d) = k

  -- Neighbours on a channel are of one mark; so is a square.
  pub one_channel : (m n : Mark) (s t : Square) → Adjoin (IsChannelSquare (covered (shape f))) s t → OfMark f m s
      → OfMark f n t → m ≡ n
  one_channel m n s t j o p =
      let k = near_tile (near m s t o n.band n.row n.column p.u p.v p.at j.beside) in
      one_mark f w m n o.in_marks p.in_marks k.band k.row k.column

  pub one_mark_of : (m n : Mark) (s : Square) → OfMark f m s → OfMark f n s → m ≡ n
  one_mark_of m n s o p =
      let k = (same_place f m.band m.row m.column o.u o.v n.band n.row n.column p.u p.v s.x s.y o.at p.at).tile in
      one_mark f w m n o.in_marks p.in_marks k.band k.row k.column

  pub chain_mark : (m : Mark) (s t : Square) → Chain (Adjoin (IsChannelSquare (covered (shape f)))) s t → OfMark f m s
      → OfMark f m t
  chain_mark m s t here o = o
  chain_mark m s t (link {t = z} j c) o =
      let n = mark_of z j.to in
      chain_mark m z t c (subst (λ k. OfMark f k z) (sym (one_channel m n.0 s z j o n.1)) n.1)

  -- ---- what stands beside a channel
  beside_test : (h p : Cell) (u v u2 v2 : ℕ) (m : Mark) (b r c : ℕ) → Near m u v b r c u2 v2 → Inside h u v
      → Inside p u2 v2
      → (right_of h p || (right_of p h || (upon h p || upon p h))) ≡ true
  beside_test h p u v u2 v2 m b r c (to_right_ k e d) i j = first (right_of h p) (right_of p h) (upon h p) (upon p h)
      (is_right_of h p u v u2 v2 (omega arith) (omega arith) d i j)
    where
      first : (a b c d : Bool) → a ≡ true → (a || (b || (c || d))) ≡ true
      first a b c d e = grind arith
  beside_test h p u v u2 v2 m b r c (to_left_ k e d) i j = second (right_of h p) (right_of p h) (upon h p) (upon p h)
      (is_right_of p h u2 v2 u v (omega arith) (omega arith) (sym d) j i)
    where
      second : (a b c d : Bool) → b ≡ true → (a || (b || (c || d))) ≡ true
      second a b c d e = grind arith
  beside_test h p u v u2 v2 m b r c (to_top_ k e d) i j = third (right_of h p) (right_of p h) (upon h p) (upon p h)
      (is_upon h p u v u2 v2 e (omega arith) (omega arith) i j)
    where
      third : (a b c d : Bool) → c ≡ true → (a || (b || (c || d))) ≡ true
      third a b c d e = grind arith
  beside_test h p u v u2 v2 m b r c (to_bottom_ k e d) i j = fourth (right_of h p) (right_of p h) (upon h p) (upon p h)
      (is_upon p h u2 v2 u v (sym e) (omega arith) (omega arith) j i)
    where
      fourth : (a b c d : Bool) → d ≡ true → (a || (b || (c || d))) ≡ true
      fourth a b c d e = grind arith

  line_of : (m : Mark) (s : Side) (n : Net) → NetAt f m.band m.row m.column (of_line s) n → LineOf f m s n
  line_of m s n (l, ml, p, e) = record { the_line = l; among = ml; passes = p; is = e }

  end_of : (m : Mark) (t : Tile) (k : Kind) (n : Net) → m.tile ≡ t → ends_at (mark t) k ≡ true
      → NetAt f m.band m.row m.column k n → HasEnd f m n
  end_of m Tran (of_line L) n e h g = inl (e, inl (line_of m L n g))
  end_of m Tran (of_line R) n e h g = inl (e, inr (line_of m R n g))
  end_of m PullUp (of_line L) n e h g = inr (e, inl (line_of m L n g))
  end_of m PullUp of_power n e h g = inr (e, inr g)
  end_of m Tran of_ground n e h g = absurd (cc)
  end_of m Tran of_power n e h g = absurd (cc)
  end_of m Tran of_segment n e h g = absurd (cc)
  end_of m PullUp of_ground n e h g = absurd (cc)
  end_of m PullUp of_segment n e h g = absurd (cc)
  end_of m PullUp (of_line R) n e h g = absurd (cc)
  end_of m TapL of_ground n e h g = absurd (cc)
  end_of m TapL of_power n e h g = absurd (cc)
  end_of m TapL of_segment n e h g = absurd (cc)
  end_of m TapL (of_line s) n e h g = absurd (cc)
  end_of m TapR of_ground n e h g = absurd (cc)
  end_of m TapR of_power n e h g = absurd (cc)
  end_of m TapR of_segment n e h g = absurd (cc)
  end_of m TapR (of_line s) n e h g = absurd (cc)
  end_of m Under of_ground n e h g = absurd (cc)
  end_of m Under of_power n e h g = absurd (cc)
  end_of m Under of_segment n e h g = absurd (cc)
  end_of m Under (of_line s) n e h g = absurd (cc)

  -- The diffusion beside a channel is of a net that the mark has as an end.
  pub ends_are : (m : Mark) (s t : Square) (n : Net) → OfMark f m s → t.layer ≡ ND → ShareEdge s t → Owns f n t
      → HasEnd f m n
  ends_are m s t n o e j g =
      let p = g.owner in
      let k = near m s t o p.b p.r p.c p.u p.v p.at j in
      let q = row_at f w p.b p.r p.v p.at.slot in
      let tile = near_tile k in
      let h : Here f p.b p.r p.c (mark m.tile) = move (λ b r c. Here f b r c (mark m.tile)) tile
      (here_mark m o.in_marks (has_channel m.tile o.cell o.among)) in
      let a = and_from _ _ (are_together f w (mark m.tile) p.thing p.b p.r p.c q.0 p.at.band q.1 h p.here)
      (and_from _ _ (layer_is ND p.part.cell (p.layer ∙ e))
      (beside_test o.cell p.part.cell o.u o.v p.u p.v m p.b p.r p.c k o.inside p.inside)) in
      let z = follows (together q.0 (mark m.tile) p.thing
      && (is_layer ND p.part.cell && (right_of o.cell p.part.cell
      || (right_of p.part.cell o.cell || (upon o.cell p.part.cell || upon p.part.cell o.cell)))))
      (ends_at (mark m.tile) p.part.kind)
      (at_ends is_beside is_beside_passes q.0 (mark m.tile) o.cell p.thing p.part o.among p.among) a in
      end_of m m.tile p.part.kind n refl z (move (λ b r c. NetAt f b r c p.part.kind n) (back tile) g.net)

  -- ---- the squares of a mark
  abbrev pub place : Mark → Layer → ℕ → ℕ → Square
  place m l u v = record { layer = l; x = pos (10000 * m.column + u); y = pos (500 * base f m.band + 6000 * m.row + v) }

  slot_of : (m : Mark) (v : ℕ) → Contains f.marks m → (m.tile ≡ Tran) × (v < 6000) ⊎ (m.tile ≡ PullUp) × (v < 18000)
      → (m.band < bands f) × Slot f m.band m.row v
  slot_of m v h (inl g) = let l = mark_lies f w m h in let r = subst (λ z. RowOf f z m.band m.row) g.0 l.row in
      (l.band, inl (r, g.1))
  slot_of m v h (inr g) = let l = mark_lies f w m h in let r = subst (λ z. RowOf f z m.band m.row) g.0 l.row in
      (l.band, inr (r, g.1))

  place_of_mark : (m : Mark) (t : Tile) (k : Cell) (u v : ℕ) → Contains f.marks m → m.tile ≡ t
      → (m.band < bands f) × Slot f m.band m.row v → u < 10000 → Member (channels (mark t)) k → Inside k u v
      → OfMark f m (place m NP u v)
  place_of_mark m t k u v h e s hu i j = record {
    in_marks = h;
    layer = refl;
    u = u;
    v = v;
    at = record { band = s.0; slot = s.1; at_x = refl; at_y = refl; in_x = hu };
    cell = k;
    among = subst (λ z. Member (channels (mark z)) k) (sym e) i;
    inside = j;
  }

  place_owner : (m : Mark) (t : Tile) (p : Part) (u v : ℕ) (n : Net) → Contains f.marks m → m.tile ≡ t → IsSwitchTile t
      → (m.band < bands f) × Slot f m.band m.row v → u < 10000 → Member (parts (mark t)) p → Inside p.cell u v
      → NetAt f m.band m.row m.column p.kind n → Owns f n (place m p.cell.layer u v)
  place_owner m t p u v n h e g s hu i j k = record {
    owner = record {
      b = m.band;
      r = m.row;
      c = m.column;
      u = u;
      v = v;
      at = record { band = s.0; slot = s.1; at_x = refl; at_y = refl; in_x = hu };
      thing = mark m.tile;
      here = here_mark m h (subst IsSwitchTile (sym e) g);
      part = p;
      among = subst (λ z. Member (parts (mark z)) p) (sym e) i;
      layer = refl;
      inside = j;
    };
    net = k;
  }

  -- the square of a channel from which the mark is named
  pub corner : (m : Mark) → Contains f.marks m → IsSwitchTile m.tile → (s : Square) × OfMark f m s
  corner m h (inl e) = (
    place m NP 4500 1000,
    place_of_mark m Tran (cell NP 9 2 11 4) 4500 1000 h e
        (slot_of m 1000 h (inl (e, omega arith))) (omega arith) (inl refl)
        (record { left = omega arith; right = omega arith; bottom = omega arith; top = omega arith }),
  )
  corner m h (inr e) = (
    place m NP 1500 4000,
    place_of_mark m PullUp (cell NP 3 8 5 24) 1500 4000 h e
        (slot_of m 4000 h (inr (e, omega arith))) (omega arith) (inl refl)
        (record { left = omega arith; right = omega arith; bottom = omega arith; top = omega arith }),
  )

  -- a channel has one rectangle
  pub one_cell : (t : Tile) (k h : Cell) → Member (channels (mark t)) k → Member (channels (mark t)) h → k ≡ h
  one_cell TapL k h i j = absurd i
  one_cell TapR k h i j = absurd i
  one_cell Tran k h (inl i) (inl j) = sym i ∙ j
  one_cell Tran k h (inl i) (inr j) = absurd j
  one_cell Tran k h (inr i) j = absurd i
  one_cell PullUp k h (inl i) (inl j) = sym i ∙ j
  one_cell PullUp k h (inl i) (inr j) = absurd j
  one_cell PullUp k h (inr i) j = absurd i
  one_cell Under k h i j = absurd i

  abbrev pub channel_rect : Mark → Cell → Rect
  channel_rect m k = record {
    layer = NP;
    x0 = pos (10000 * m.column + 500 * k.x0);
    y0 = pos (500 * base f m.band + 6000 * m.row + 500 * k.y0);
    x1 = pos (10000 * m.column + 500 * k.x1);
    y1 = pos (500 * base f m.band + 6000 * m.row + 500 * k.y1);
  }

  pub in_channel : (m : Mark) (s : Square) (o : OfMark f m s) → IsIn (channel_rect m o.cell) s
  in_channel m s o =
      let a0 = o.at.at_x in let a1 = o.at.at_y in let i0 = o.inside.left in let i1 = o.inside.right in
      let i2 = o.inside.bottom in let i3 = o.inside.top in
      record {
        same = sym o.layer;
        left = omega (arith, ints);
        right = omega (arith, ints);
        bottom = omega (arith, ints);
        top = omega (arith, ints);
      }

  channel_fits : (m : Mark) (k : Cell) → Contains f.marks m → Member (channels (mark m.tile)) k
      → (k.x1 ≤ 20) × ((m.row < rows_of f m.band) × (k.y1 ≤ 12) ⊎ (m.row ≡ rows_of f m.band) × (k.y1 ≤ 36))
  channel_fits m k h i = go m.tile k i (mark_lies f w m h)
    where
      go : (t : Tile) (k : Cell) → Member (channels (mark t)) k → MarkLies f t m.band m.row m.column
          → (k.x1 ≤ 20) × ((m.row < rows_of f m.band) × (k.y1 ≤ 12) ⊎ (m.row ≡ rows_of f m.band) × (k.y1 ≤ 36))
      go TapL k i l = absurd i
      go TapR k i l = absurd i
      go Tran k (inl e) l = subst
          (λ z. (z.x1 ≤ 20) × ((m.row < rows_of f m.band) × (z.y1 ≤ 12) ⊎ (m.row ≡ rows_of f m.band) × (z.y1 ≤ 36))) e
          (omega arith, inl (l.row, omega arith))
      go Tran k (inr e) l = absurd e
      go PullUp k (inl e) l = subst
          (λ z. (z.x1 ≤ 20) × ((m.row < rows_of f m.band) × (z.y1 ≤ 12) ⊎ (m.row ≡ rows_of f m.band) × (z.y1 ≤ 36))) e
          (omega arith, inr (l.row, omega arith))
      go PullUp k (inr e) l = absurd e
      go Under k i l = absurd i

  pub in_mark : (m : Mark) (k : Cell) → Contains f.marks m → Member (channels (mark m.tile)) k → (s : Square)
      → IsIn (channel_rect m k) s → OfMark f m s
  in_mark m k h i s j =
      let l = mark_lies f w m h in
      let fit = channel_fits m k h i in
      let wide = fit.0 in
      let a = natural s.x (10000 * m.column + 500 * k.x0) j.left in
      let d = natural s.y (500 * base f m.band + 6000 * m.row + 500 * k.y0) j.bottom in
      let e0 = j.right in let e1 = j.top in let e2 = a.1 in let e3 = d.1 in let e4 = a.2 in let e5 = d.2 in
      let u : ℕ = a.0 - 10000 * m.column in
      let v : ℕ = d.0 - 500 * base f m.band - 6000 * m.row in
      let slot : Slot f m.band m.row v = elim fit.1 [
        | inl g ↦ (let g0 = g.0 in let g1 = g.1 in inl (g0, omega (arith, ints)))
        | inr g ↦ (let g0 = g.0 in let g1 = g.1 in inr (g0, omega (arith, ints)))
      ] in
      record {
        in_marks = h;
        layer = sym j.same;
        u = u;
        v = v;
        at = record {
          band = l.band;
          slot = slot;
          at_x = omega (arith, ints);
          at_y = omega (arith, ints);
          in_x = omega (arith, ints);
        };
        cell = k;
        among = i;
        inside = record {
          left = omega (arith, ints);
          right = omega (arith, ints);
          bottom = omega (arith, ints);
          top = omega (arith, ints);
        };
      }

  -- The squares of a mark's channel are joined.
  pub channel_whole : RectanglesAreJoined → (m : Mark) (s t : Square) → OfMark f m s → OfMark f m t
      → Chain (Adjoin (IsChannelSquare (covered (shape f)))) s t
  channel_whole joined m s t o p =
      let e : p.cell ≡ o.cell = one_cell m.tile p.cell o.cell p.among o.among in
      let conducts : (z : Square) → IsIn (channel_rect m o.cell) z
      → IsChannelSquare (covered (shape f)) z = λ z i. of_mark m z (in_mark m o.cell o.in_marks o.among z i) in
      map_chain (λ a b j. record { from = conducts a j.from; to = conducts b j.to; same = j.same; beside = j.beside })
      (joined (channel_rect m o.cell) s t (in_channel m s o)
      (subst (λ z. IsIn (channel_rect m z) t) e (in_channel m t p)))

  -- ---- gates
  pub gate_of : (m : Mark) (s : Square) (n : Net) → OfMark f m s → HasGate f m n → Owns f n s
  gate_of m s n o (inl (e, g)) =
      let k : cell NP 9 2 11 4 ≡ o.cell = elim (subst (λ z. Member (channels (mark z)) o.cell) e o.among)
      [ inl q ↦ q | inr q ↦ absurd q ] in
      let i : Inside (cell NP 9 2 11 4) o.u o.v = subst (λ z. Inside z o.u o.v) (sym k) o.inside in
      let i0 = i.left in let i1 = i.right in let i2 = i.bottom in let i3 = i.top in
      record {
        owner = record {
          b = m.band;
          r = m.row;
          c = m.column;
          u = o.u;
          v = o.v;
          at = o.at;
          thing = mark m.tile;
          here = here_mark m o.in_marks (inl e);
          part = record { kind = of_segment; cell = cell NP 9 0 11 6 };
          among = subst (λ z. Member (parts (mark z)) (record { kind = of_segment; cell = cell NP 9 0 11 6 })) (sym e)
              (inr (inr (inl refl)));
          layer = sym o.layer;
          inside = record { left = omega arith; right = omega arith; bottom = omega arith; top = omega arith };
        };
        net = (g.the_segment, g.among, inl g.crosses, g.is);
      }
  gate_of m s n o (inr (e, g)) =
      let k : cell NP 3 8 5 24 ≡ o.cell = elim (subst (λ z. Member (channels (mark z)) o.cell) e o.among)
      [ inl q ↦ q | inr q ↦ absurd q ] in
      let i : Inside (cell NP 3 8 5 24) o.u o.v = subst (λ z. Inside z o.u o.v) (sym k) o.inside in
      let i0 = i.left in let i1 = i.right in let i2 = i.bottom in let i3 = i.top in
      record {
        owner = record {
          b = m.band;
          r = m.row;
          c = m.column;
          u = o.u;
          v = o.v;
          at = o.at;
          thing = mark m.tile;
          here = here_mark m o.in_marks (inr e);
          part = record { kind = of_line L; cell = cell NP 1 8 12 24 };
          among = subst (λ z. Member (parts (mark z)) (record { kind = of_line L; cell = cell NP 1 8 12 24 })) (sym e)
              (inr (inr (inr (inl refl))));
          layer = sym o.layer;
          inside = record { left = omega arith; right = omega arith; bottom = omega arith; top = omega arith };
        };
        net = (g.the_line, g.among, g.passes, g.is);
      }

  -- each switch has a gate
  pub some_gate : (m : Mark) → Contains f.marks m → IsSwitchTile m.tile → (n : Net) × HasGate f m n
  some_gate m h (inl e) =
      let (left, right, s) = mark_stands f w Tran m.band m.row m.column
      (record { mark_ = m; among = h; tile = e; band = refl; row = refl; column = refl }) in
      (segment s.segment, inl (e, record { the_segment = s.segment; among = s.among; crosses = s.crosses; is = refl }))
  some_gate m h (inr e) =
      let l = pull_up_line f w m.band m.row m.column
      (record { mark_ = m; among = h; tile = e; band = refl; row = refl; column = refl }) in
      (line l.line, inr (e, record { the_line = l.line; among = l.among; passes = l.passes; is = refl }))

  -- ---- ends, the other way
  pub record EndSquare (m : Mark) (n : Net) : Type 0 where
    pub s : Square
    pub t : Square
    pub of : OfMark f m s
    pub layer : t.layer ≡ ND
    pub beside : ShareEdge s t
    pub owns : Owns f n t

  pub end_square : (m : Mark) (n : Net) → Contains f.marks m → HasEnd f m n → EndSquare m n
  end_square m n h (inl (e, inl g)) =
      let s = slot_of m 1000 h (inl (e, omega arith)) in
      record {
        s = place m NP 4500 1000;
        t = place m ND 4499 1000;
        of = place_of_mark m Tran (cell NP 9 2 11 4) 4500 1000 h e s (omega arith) (inl refl)
            (record { left = omega arith; right = omega arith; bottom = omega arith; top = omega arith });
        layer = refl;
        beside = inl (refl, inr (omega (arith, ints)));
        owns = place_owner m Tran (record { kind = of_line L; cell = cell ND 6 2 9 4 }) 4499 1000 n h e (inl refl) s
            (omega arith) (inl refl) (record {
              left = omega arith;
              right = omega arith;
              bottom = omega arith;
              top = omega arith;
            }) (g.the_line, g.among, g.passes, g.is);
      }
  end_square m n h (inl (e, inr g)) =
      let s = slot_of m 1000 h (inl (e, omega arith)) in
      record {
        s = place m NP 5499 1000;
        t = place m ND 5500 1000;
        of = place_of_mark m Tran (cell NP 9 2 11 4) 5499 1000 h e s (omega arith) (inl refl)
            (record { left = omega arith; right = omega arith; bottom = omega arith; top = omega arith });
        layer = refl;
        beside = inl (refl, inl (omega (arith, ints)));
        owns = place_owner m Tran (record { kind = of_line R; cell = cell ND 11 2 14 4 }) 5500 1000 n h e (inl refl) s
            (omega arith) (inr (inl refl))
            (record { left = omega arith; right = omega arith; bottom = omega arith; top = omega arith })
            (g.the_line, g.among, g.passes, g.is);
      }
  end_square m n h (inr (e, inl g)) =
      let s = slot_of m 4000 h (inr (e, omega arith)) in
      let s2 = slot_of m 3999 h (inr (e, omega arith)) in
      record {
        s = place m NP 1500 4000;
        t = place m ND 1500 3999;
        of = place_of_mark m PullUp (cell NP 3 8 5 24) 1500 4000 h e s (omega arith) (inl refl)
            (record { left = omega arith; right = omega arith; bottom = omega arith; top = omega arith });
        layer = refl;
        beside = inr (refl, inr (omega (arith, ints)));
        owns = place_owner m PullUp (record { kind = of_line L; cell = cell ND 3 6 5 8 }) 1500 3999 n h e (inr refl) s2
            (omega arith) (inr (inr (inr (inr (inl refl)))))
            (record { left = omega arith; right = omega arith; bottom = omega arith; top = omega arith })
            (g.the_line, g.among, g.passes, g.is);
      }
  end_square m n h (inr (e, inr g)) =
      let s = slot_of m 11999 h (inr (e, omega arith)) in
      let s2 = slot_of m 12000 h (inr (e, omega arith)) in
      record {
        s = place m NP 1500 11999;
        t = place m ND 1500 12000;
        of = place_of_mark m PullUp (cell NP 3 8 5 24) 1500 11999 h e s (omega arith) (inl refl)
            (record { left = omega arith; right = omega arith; bottom = omega arith; top = omega arith });
        layer = refl;
        beside = inr (refl, inl (omega (arith, ints)));
        owns = place_owner m PullUp (record { kind = of_power; cell = cell ND 3 24 5 27 }) 1500 12000 n h e
            (inr refl) s2 (omega arith) (inr (inr (inr (inr (inr (inl refl))))))
            (record { left = omega arith; right = omega arith; bottom = omega arith; top = omega arith }) g;
      }

  -- ---- kinds
  tran_not_up : (t : Tile) → t ≡ Tran → is_pull_up (mark t) ≡ true → ⊥
  tran_not_up t e h = let g : is_pull_up (mark Tran) ≡ true = subst (λ z. is_pull_up (mark z) ≡ true) e h in absurd (cc)

  -- no implant lies over a transistor,
  pub bare : (m : Mark) (s : Square) → OfMark f m s → m.tile ≡ Tran → covered (shape f) NI s.x s.y → ⊥
  bare m s o e h =
      let k = local_of f w NI s.x s.y h in
      let p = same_place f m.band m.row m.column o.u o.v k.b k.r k.c k.u k.v s.x s.y o.at k.at in
      let q = row_at f w k.b k.r k.v k.at.slot in
      let g : Here f k.b k.r k.c (mark m.tile) = move (λ b r c. Here f b r c (mark m.tile)) p.tile
      (here_mark m o.in_marks (inl e)) in
      let i : Inside o.cell k.u k.v = subst (λ z. Inside o.cell z k.v) p.across
      (subst (λ z. Inside o.cell o.u z) p.up o.inside) in
      let a = and_from _ _ (are_together f w (mark m.tile) k.thing k.b k.r k.c q.0 k.at.band q.1 g k.here)
      (and_from _ _ (layer_is NI k.cell k.layer) (they_meet o.cell k.cell k.u k.v i k.inside)) in
      tran_not_up m.tile e (follows (together q.0 (mark m.tile) k.thing && (is_layer NI k.cell && meets o.cell k.cell))
      (is_pull_up (mark m.tile)) (at_implants is_bare is_bare_passes q.0
      (mark m.tile) o.cell k.thing k.cell o.among k.among) a)

  -- and implant lies over all of a pull-up
  pub implanted : (m : Mark) (s : Square) → OfMark f m s → m.tile ≡ PullUp → covered (shape f) NI s.x s.y
  implanted m s o e =
      let g : is_pull_up (mark m.tile) ≡ true = ap (λ z. is_pull_up (mark z)) e in
      let a = follows (is_pull_up (mark m.tile)) (some (λ k. is_layer NI k && lies_in o.cell k)
      (cells_of (mark m.tile))) (at_channel is_implanted is_implanted_passes (mark m.tile) o.cell o.among) g in
      let k = some_at (λ k. is_layer NI k && lies_in o.cell k) (cells_of (mark m.tile)) a in
      let b = and_parts (is_layer NI k.0) (lies_in o.cell k.0) k.2 in
      drawn_larger f w (mark m.tile) k.0 o.cell NI m.band m.row m.column o.u o.v s.x s.y k.1
      (one_layer k.0.layer NI b.0) b.1 (here_mark m o.in_marks (inr e)) o.at o.inside
