-- The west side of a fabric.
use Rattle.std.proofs.Common.{ℕ, ◌≡◌, ◌+◌, ◌-◌, ◌*◌, ◌<◌, ◌≤◌, ◌⊎◌, inl, inr, refl, sym, ◌∙◌, ap, subst, arith, cond, eqb}
use Rattle.std.proofs.Common.{Contains}
use Rattle.std.specs.Prelude.{ℤ, pos, ◌≤ℤ◌, ◌<ℤ◌}
use Rattle.std.proofs.lemmas.Int.{ints}
use Rattle.std.proofs.lemmas.Bool.{eq-eqb, ne_eqb}
use Rattle.mp_base.proofs.Members.{Member}
use Rattle.lam_geom.specs.declared.layer.Layer.{Layer}
use Rattle.lam_geom.specs.declared.layer.Layer.TheVariants.{ND, NP, NM, NC}
use Rattle.lam_geom.specs.Chains.{Chain}
use Rattle.lam_geom.specs.Chains.Chain.{here}
use Rattle.lam_geom.specs.Extent.{IsBetween}
use Rattle.lam_geom.specs.Squares.{Square, covered, RectanglesAreJoined}
use Rattle.switch_net.specs.Conductors.{Joined}
use Rattle.tile_cells.specs.declared.tile.Tile.{Tile}
use Rattle.tile_cells.specs.declared.tile.Tile.TheVariants.{TapL, TapR, Tran, PullUp, Under}
use Rattle.tile_cells.specs.Tiles.{Cell, cell}
use Rattle.fabric.specs.declared.thing.Mark.{Mark}
use Rattle.fabric.specs.declared.thing.Segment.{Segment}
use Rattle.fabric.specs.Plan.{Plan, IsFabric, bands, rows_of, Stands}
use Rattle.fabric.specs.Shape.{base, last_column, lift, shape}
use Rattle.fabric.specs.Switches.{Net, IsNet}
use Rattle.fabric.specs.Switches.Net.{segment, line, ground, power as the_power}
use Rattle.fabric.proofs.Bases.{bands_lie}
use Rattle.fabric.proofs.Lying.{segment_lies, mark_lies}
use Rattle.fabric_laws.specs.Theorem.{IsOn}
use Rattle.fabric_laws.specs.West.{crossing_low, IsCrossingAt, IsCrossingOf, IsBeginning, FacesWest}
use Rattle.fabric_laws.specs.West.{FabricsFaceWest, FabricsAreHeld}
use Rattle.fabric_laws.proofs.Tile.{Thing, cells_of, Here, MarkAt, Slot, At, Inside, Local}
use Rattle.fabric_laws.proofs.Tile.Thing.{trunk, power, ground_start, ground_on, rail, rail_end, seg, lin, mark}
use Rattle.fabric_laws.proofs.Tile.Thing.{under_rail}
use Rattle.fabric_laws.proofs.Heights.{natural}
use Rattle.fabric_laws.proofs.Local.{local_of}
use Rattle.fabric_laws.proofs.Back.{drawn_at}
use Rattle.fabric_laws.proofs.Zones.{here_col, mark_stands}
use Rattle.fabric_laws.proofs.Tables.{part}
use Rattle.fabric_laws.proofs.Tables.Kind.{of_power, of_segment}
use Rattle.fabric_laws.proofs.Joins.{Owns}
use Rattle.fabric_laws.proofs.Nodes.{nodes_are_nets}
use Rattle.fabric_laws.proofs.Network.{on_net}

module _ (f : Plan) (w : IsFabric f) where
  -- a crossing stands in a signal row, or in a pull-up row
  low_signal : (b r : ℕ) → r < rows_of f b → lift f Under b r ≡ 0
  low_signal b r h = ap (λ z. cond z 21 0) (ne_eqb r (rows_of f b) (λ e. omega arith))

  low_top : (b r : ℕ) → r ≡ rows_of f b → lift f Under b r ≡ 21
  low_top b r h = ap (λ z. cond z 21 0) (eq-eqb r (rows_of f b) h)

  -- the height of a mark, by that of its tile
  low_is : (t : Tile) (b r c : ℕ) (m : MarkAt f t b r c)
      → crossing_low f m.mark_ ≡ base f b + 12 * r + lift f Under b r + 6
  low_is t b r c m = λ i. base f (m.band i) + 12 * m.row i + lift f Under (m.band i) (m.row i) + 6

  -- metal and cuts of a crossing's tile are 4 high
  is_high : (l : Layer) → (l ≡ NM) ⊎ (l ≡ NC) → (k : Cell) → Member (cells_of (mark Under)) k → k.layer ≡ l
      → (6 ≤ k.y0) × (k.y1 ≤ 10)
  is_high l h k (inl e) g = subst (λ z. (6 ≤ z.y0) × (z.y1 ≤ 10)) e (omega arith, omega arith)
  is_high l h k (inr (inl e)) g = subst (λ z. (6 ≤ z.y0) × (z.y1 ≤ 10)) e (omega arith, omega arith)
  is_high l h k (inr (inr (inl e))) g = subst (λ z. (6 ≤ z.y0) × (z.y1 ≤ 10)) e (omega arith, omega arith)
  is_high l h k (inr (inr (inr (inl e)))) g = subst (λ z. (6 ≤ z.y0) × (z.y1 ≤ 10)) e (omega arith, omega arith)
  is_high l h k (inr (inr (inr (inr (inl e))))) g = subst (λ z. (6 ≤ z.y0) × (z.y1 ≤ 10)) e (omega arith, omega arith)
  is_high l h k (inr (inr (inr (inr (inr m))))) g = absurd m

  is_raised : (k : Cell) → Member (cells_of under_rail) k → (27 ≤ k.y0) × (k.y1 ≤ 31)
  is_raised k (inl e) = subst (λ z. (27 ≤ z.y0) × (z.y1 ≤ 31)) e (omega arith, omega arith)
  is_raised k (inr (inl e)) = subst (λ z. (27 ≤ z.y0) × (z.y1 ≤ 31)) e (omega arith, omega arith)
  is_raised k (inr (inr (inl e))) = subst (λ z. (27 ≤ z.y0) × (z.y1 ≤ 31)) e (omega arith, omega arith)
  is_raised k (inr (inr (inr (inl e)))) = subst (λ z. (27 ≤ z.y0) × (z.y1 ≤ 31)) e (omega arith, omega arith)
  is_raised k (inr (inr (inr (inr (inl e))))) = subst (λ z. (27 ≤ z.y0) × (z.y1 ≤ 31)) e (omega arith, omega arith)
  is_raised k (inr (inr (inr (inr (inr m))))) = absurd m

  -- the trunk's cells begin at 7
  from_7 : (k : Cell) (u v : ℕ) (x0 y0 x1 y1 : ℕ) → cell NM x0 y0 x1 y1 ≡ k → 7 ≤ x0 → Inside k u v → 3500 ≤ u
  from_7 k u v x0 y0 x1 y1 e h i =
      let g : x0 ≡ k.x0 = ap (λ z. z.x0) e in let i0 = i.left in omega arith

  near : (l : Layer) (x y : ℤ) → (l ≡ NM) ⊎ (l ≡ NC) → Local f l x y → x <ℤ pos 3500 → (m : Mark) × IsCrossingAt f m y
  near l x y h k below = at k.thing k.here k.among
    where
      a0 : x ≡ pos (10000 * k.c + k.u)
      a0 = k.at.at_x

      first : k.c ≡ 0
      first = let a = a0 in omega (arith, ints)

      small : k.u < 3500
      small = let a = a0 in omega (arith, ints)

      no_middle : (1 ≤ k.c) × (k.c < last_column f) → ⊥
      no_middle i = let i0 = i.0 in let e = first in omega arith

      no_east : k.c ≡ last_column f → ⊥
      no_east i = let c = w.columns in let e = first in omega arith

      under : MarkAt f Under k.b k.r k.c → (z : ℕ) → lift f Under k.b k.r ≡ z → 500 * (z + 6) ≤ k.v
          → k.v < 500 * (z + 10) → (m : Mark) × IsCrossingAt f m y
      under m z e lo hi = (
        m.mark_,
        record {
          among = m.among;
          tile = m.tile;
          low = (let g = low_is Under k.b k.r k.c m in let y0 = k.at.at_y in omega (arith, ints));
          high = (let g = low_is Under k.b k.r k.c m in let y0 = k.at.at_y in omega (arith, ints));
        },
      )

      at : (t : Thing) → Here f k.b k.r k.c t → Member (cells_of t) k.cell → (m : Mark) × IsCrossingAt f m y
      at trunk i (inl e) = absurd (let g = from_7 k.cell k.u k.v 7 0 13 36 e (omega arith) k.inside in
          let s = small in omega arith)
      at trunk i (inr m) = absurd m
      at power i m = absurd (no_east i)
      at ground_start i (inl e) = absurd (let g = from_7 k.cell k.u k.v 7 6 20 10 e (omega arith) k.inside in
          let s = small in omega arith)
      at ground_start i (inr m) = absurd m
      at ground_on i m = absurd (no_middle (here_col f w ground_on k.b k.r k.c i))
      at rail i m = absurd (no_middle (here_col f w rail k.b k.r k.c i))
      at rail_end i m = absurd (no_east (here_col f w rail_end k.b k.r k.c i))
      at seg i m = absurd (no_middle (here_col f w seg k.b k.r k.c i))
      at (lin s) i m = absurd (no_middle (here_col f w (lin s) k.b k.r k.c i))
      at (mark TapL) i m = absurd (no_middle (here_col f w (mark TapL) k.b k.r k.c i))
      at (mark TapR) i m = absurd (no_middle (here_col f w (mark TapR) k.b k.r k.c i))
      at (mark Tran) i m = absurd (no_middle (here_col f w (mark Tran) k.b k.r k.c i))
      at (mark PullUp) i m = absurd (no_middle (here_col f w (mark PullUp) k.b k.r k.c i))
      at (mark Under) i m =
          let n = is_high l h k.cell m k.layer in let n0 = n.0 in let n1 = n.1 in
          let j = k.inside in let j0 = j.bottom in let j1 = j.top in
          under i.0 0 (low_signal k.b k.r (i.1 refl)) (omega arith) (omega arith)
      at under_rail i m =
          let n = is_raised k.cell m in let n0 = n.0 in let n1 = n.1 in
          let j = k.inside in let j0 = j.bottom in let j1 = j.top in
          under i.0 21 (low_top k.b k.r i.1) (omega arith) (omega arith)

  not_west : (l : Layer) (x y : ℤ) → covered (shape f) l x y → pos 0 ≤ℤ x
  not_west l x y h = let k = local_of f w l x y h in let a = k.at.at_x in omega (arith, ints)

  -- ---- the beginning of a crossing, at its tile
  module _ (m : Mark) (s : Square) (i : IsBeginning f m s) where
    across : (u : ℕ) × (s.x ≡ pos u) × (0 ≤ u)
    across = natural s.x 0 i.left

    up : (h : ℕ) × (s.y ≡ pos h) × (500 * crossing_low f m ≤ h)
    up = natural s.y (500 * crossing_low f m) i.at.low

    column : m.column ≡ 0
    column = (subst (λ t. Stands f t m.band m.row m.column) i.at.tile
        (mark_stands f w m.tile m.band m.row m.column
        (record { mark_ = m; among = i.at.among; tile = refl; band = refl; row = refl; column = refl }))).0

    its_mark : MarkAt f Under m.band m.row 0
    its_mark = record {
      mark_ = m;
      among = i.at.among;
      tile = i.at.tile;
      band = refl;
      row = refl;
      column = column;
    }

    its_band : m.band < bands f
    its_band = (mark_lies f w m i.at.among).band

    abbrev height : ℕ
    height = up.0 - (500 * base f m.band + 6000 * m.row)

    signal_at : m.row < rows_of f m.band → At f m.band m.row 0 across.0 height s.x s.y
    signal_at h =
        let e = low_signal m.band m.row h in
        let a = across in let a1 = a.1 in let r = i.right in
        let u = up in let u1 = u.1 in let u2 = u.2 in let t = i.at.high in
        record {
          band = its_band;
          slot = inl (h, omega (arith, ints));
          at_x = omega (arith, ints);
          at_y = omega (arith, ints);
          in_x = omega (arith, ints);
        }

    signal_in : m.row < rows_of f m.band → Inside (cell NM 0 6 4 10) across.0 height
    signal_in h =
        let e = low_signal m.band m.row h in
        let a = across in let a1 = a.1 in let r = i.right in
        let u = up in let u1 = u.1 in let u2 = u.2 in let t = i.at.high in
        record {
          left = omega arith;
          right = omega (arith, ints);
          bottom = omega (arith, ints);
          top = omega (arith, ints);
        }

    top_at : m.row ≡ rows_of f m.band → At f m.band m.row 0 across.0 height s.x s.y
    top_at h =
        let e = low_top m.band m.row h in
        let a = across in let a1 = a.1 in let r = i.right in
        let u = up in let u1 = u.1 in let u2 = u.2 in let t = i.at.high in
        record {
          band = its_band;
          slot = inr (h, omega (arith, ints));
          at_x = omega (arith, ints);
          at_y = omega (arith, ints);
          in_x = omega (arith, ints);
        }

    top_in : m.row ≡ rows_of f m.band → Inside (cell NM 0 27 4 31) across.0 height
    top_in h =
        let e = low_top m.band m.row h in
        let a = across in let a1 = a.1 in let r = i.right in
        let u = up in let u1 = u.1 in let u2 = u.2 in let t = i.at.high in
        record {
          left = omega arith;
          right = omega (arith, ints);
          bottom = omega (arith, ints);
          top = omega (arith, ints);
        }

    begins : covered (shape f) NM s.x s.y
    begins = elim (under_rows (mark_stands f w Under m.band m.row 0 its_mark)) [
      | inl h ↦ drawn_at f w (mark Under) (cell NM 0 6 4 10) m.band m.row 0 across.0 height s.x s.y (inl refl)
          (its_mark, λ e. h) (signal_at h) (signal_in h)
      | inr h ↦ drawn_at f w under_rail (cell NM 0 27 4 31) m.band m.row 0 across.0 height s.x s.y (inl refl)
          (its_mark, h) (top_at h) (top_in h)
    ]
      where
        under_rows : Stands f Under m.band m.row 0 → (m.row < rows_of f m.band) ⊎ (m.row ≡ rows_of f m.band)
        under_rows (e, b, inl k) = inr k
        under_rows (e, b, inr (q, mq, g, r, o)) =
            let j = (segment_lies f w q mq).below in
            inl (subst (λ z. m.row < rows_of f z) g (subst (λ z. z < rows_of f q.band) r j))

    begins_net : (n : Net) → IsCrossingOf f m n → Owns f n s
    begins_net n (inl (h, e)) = record {
      owner = record {
        b = m.band;
        r = m.row;
        c = 0;
        u = across.0;
        v = height;
        at = top_at h;
        thing = under_rail;
        here = (its_mark, h);
        part = part of_power NM 0 27 4 31;
        among = inl refl;
        layer = sym i.layer;
        inside = top_in h;
      };
      net = e;
    }
    begins_net n (inr (q, mq, g, r, o, e)) =
        let j = (segment_lies f w q mq).below in
        let h : m.row < rows_of f m.band =
        subst (λ z. m.row < rows_of f z) g (subst (λ z. z < rows_of f q.band) r j) in
        record {
          owner = record {
            b = m.band;
            r = m.row;
            c = 0;
            u = across.0;
            v = height;
            at = signal_at h;
            thing = mark Under;
            here = (its_mark, λ z. h);
            part = part of_segment NM 0 6 4 10;
            among = inl refl;
            layer = sym i.layer;
            inside = signal_in h;
          };
          net = (q, mq, inr (refl, g, r, o), e);
        }

    its_net : (n : Net) × IsCrossingOf f m n
    its_net = of (mark_stands f w Under m.band m.row 0 its_mark)
      where
        of : Stands f Under m.band m.row 0 → (n : Net) × IsCrossingOf f m n
        of (e, b, inl k) = (the_power, inl (k, refl))
        of (e, b, inr (q, mq, g, r, o)) = (segment q, inr (q, mq, g, r, o, refl))

    is_net : (n : Net) → IsCrossingOf f m n → IsNet f n
    is_net n (inl (h, e)) = subst (IsNet f) (sym e) tt
    is_net n (inr (q, mq, g, r, o, e)) = subst (IsNet f) (sym e) mq

  -- a crossing stands above the row of ground
  above : (m : Mark) → Contains f.marks m → m.tile ≡ Under → 18 ≤ crossing_low f m
  above m h e = of (subst (λ t. Stands f t m.band m.row m.column) e
      (mark_stands f w m.tile m.band m.row m.column
      (record { mark_ = m; among = h; tile = refl; band = refl; row = refl; column = refl })))
    where
      of : Stands f Under m.band m.row m.column → 18 ≤ crossing_low f m
      of (c, b, inl k) = let l = low_top m.band m.row k in omega arith
      of (c, b, inr (q, mq, g, r, o)) = let i = (segment_lies f w q mq).row in omega arith

  right_of : (l : Layer) (x y : ℤ) (k : Local f l x y) → x <ℤ pos (500 * (20 * last_column f + 13))
  right_of l x y k = at k.thing k.here k.among
    where
      low : k.c < last_column f → x <ℤ pos (500 * (20 * last_column f + 13))
      low h = let a = k.at.at_x in let b = k.at.in_x in omega (arith, ints)

      first : k.c ≡ 0 → x <ℤ pos (500 * (20 * last_column f + 13))
      first h = let a = k.at.at_x in let b = k.at.in_x in let c = w.columns in omega (arith, ints)

      last : (x0 y0 y1 : ℕ) → cell NM x0 y0 13 y1 ≡ k.cell → k.c ≡ last_column f
          → x <ℤ pos (500 * (20 * last_column f + 13))
      last x0 y0 y1 e h =
          let g : 13 ≡ k.cell.x1 = ap (λ z. z.x1) e in
          let i = k.inside.right in let a = k.at.at_x in
          omega (arith, ints)

      at : (t : Thing) → Here f k.b k.r k.c t → Member (cells_of t) k.cell → x <ℤ pos (500 * (20 * last_column f + 13))
      at trunk i m = first i
      at power i (inl e) = last 7 0 36 e i
      at power i (inr m) = absurd m
      at ground_start i m = first i.0
      at ground_on i m = low i.1
      at rail i m = low i.1
      at rail_end i (inl e) = last 0 27 31 e i.0
      at rail_end i (inr m) = absurd m
      at seg i m = low (here_col f w seg k.b k.r k.c i).1
      at (lin s) i m = low (here_col f w (lin s) k.b k.r k.c i).1
      at (mark TapL) i m = low (here_col f w (mark TapL) k.b k.r k.c i).1
      at (mark TapR) i m = low (here_col f w (mark TapR) k.b k.r k.c i).1
      at (mark Tran) i m = low (here_col f w (mark Tran) k.b k.r k.c i).1
      at (mark PullUp) i m = low (here_col f w (mark PullUp) k.b k.r k.c i).1
      at (mark Under) i m = first (here_col f w (mark Under) k.b k.r k.c i)
      at under_rail i m = first (here_col f w under_rail k.b k.r k.c i)

  held : (l : Layer) (x y : ℤ) → covered (shape f) l x y → IsBetween (record {
    left = pos 0;
    bottom = pos 0;
    right = pos (500 * (20 * last_column f + 13));
    top = pos (500 * base f (bands f));
  }) x y
  held l x y h =
      let k = local_of f w l x y h in
      let z = bands_lie f k.b (bands f) in
      let a = k.at.at_x in
      let d = k.at.at_y in
      let s = k.at.slot in
      let b = k.at.band in
      record {
        left = omega (arith, ints);
        bottom = omega (arith, ints);
        right = right_of l x y k;
        top = omega (arith, ints);
      }

pub fabrics_held : FabricsAreHeld
fabrics_held f w = held f w

pub faces_west : RectanglesAreJoined → FabricsFaceWest
faces_west joined f w = record {
  east = not_west f w;
  only = λ l x y h c b. near f w l x y h (local_of f w l x y c) b;
  above = above f w;
  one = λ m s t i j. (let n = its_net f w m s i in
      (nodes_are_nets joined f w s t n.0 n.0 (begins_net f w m s i n.0 n.1)
      (begins_net f w m t j n.0 n.1)).1 here);
  drawn = λ m s i. begins f w m s i;
  joined = λ m n s t i o q. (nodes_are_nets joined f w s t n n (begins_net f w m s i n o)
      (on_net joined f w n t (is_net f w m s i n o) q)).1 here;
}
