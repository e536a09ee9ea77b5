-- A square is covered exactly where something that stands at its tile covers its place there.
use Rattle.std.proofs.Common.{ℕ, ◌≡◌, ◌+◌, ◌*◌, ◌-◌, ◌<◌, ◌≤◌, ◌⊎◌, inl, inr, refl, ◌∙◌, ap, subst, arith, Bool, true}
use Rattle.std.proofs.Common.{◌&&◌, leb, eqb, List, [], ◌∷◌, ◌++◌, map, Contains}
use Rattle.std.specs.Prelude.{ℤ, pos, flat_map, cond}
use Rattle.std.specs.List.{range_with_len}
use Rattle.std.proofs.lemmas.Int.{ints}
use Rattle.std.proofs.lemmas.Bool.{and_parts, leb-true, eq-eqb, ne_eqb, cases_lt}
use Rattle.mp_base.proofs.Members.{Member, member_contains, range_members, map_member}
use Rattle.lam_geom.specs.declared.layer.Layer.{Layer}
use Rattle.lam_geom.specs.declared.layer.Layer.TheVariants.{ND, NM}
use Rattle.lam_geom.specs.Squares.{Covers, covered}
use Rattle.tile_cells.specs.declared.tile.Tile.{Tile}
use Rattle.tile_cells.specs.declared.tile.Tile.TheVariants.{TapL, TapR, Tran, PullUp, Under}
use Rattle.tile_cells.specs.Tiles.{Cell, cell, cells}
use Rattle.fabric.specs.declared.thing.Side.{Side}
use Rattle.fabric.specs.declared.thing.Side.TheVariants.{L, R}
use Rattle.fabric.specs.declared.thing.Segment.{Segment}
use Rattle.fabric.specs.declared.thing.Line.{Line}
use Rattle.fabric.specs.declared.thing.Mark.{Mark}
use Rattle.fabric.specs.Plan.{Plan, bands, rows_of, IsFabric}
use Rattle.fabric.specs.Shape.{base, last_column, offset, ground_trunk, power_trunk, ground_row, power_rail, band_rects}
use Rattle.fabric.specs.Shape.{segment_rect, line_rect, placed, tile_rects, mark_rects, shape}
use Rattle.fabric_laws.proofs.Tile.{Thing, cells_of, raised, Here, MarkAt, Slot, At, Local}
use Rattle.fabric_laws.proofs.Tile.Thing.{trunk, power, ground_start, ground_on, rail, rail_end, seg, lin, mark}
use Rattle.fabric_laws.proofs.Tile.Thing.{under_rail}
use Rattle.fabric_laws.proofs.Heights.{natural, divided, spot}
use Rattle.fabric.proofs.Bases.{bands_lie}
use Rattle.fabric.proofs.Lying.{RowOf, line_lies, mark_lies, segment_lies, some_rows}
use Rattle.fabric_laws.proofs.Lists.{covered_append, covered_map, covered_flat, every}
use Rattle.fabric_laws.proofs.Lists.{every_at}

abbrev fits : ℕ → Cell → Bool
fits h k = leb k.x1 20 && leb k.y1 h

module _ (f : Plan) (w : IsFabric f) where
  -- ---- from what covers a square to the tile
  abbrev pub trunk_at : (l : Layer) (x y : ℤ) → Covers (ground_trunk f) l x y → Local f l x y
  trunk_at l x y c =
      let a = natural x 3500 c.left in
      let d = natural y 0 c.bottom in
      let e0 = c.right in let e1 = c.top in let e2 = a.1 in let e3 = d.1 in let e4 = a.2 in
      let s = spot f (bands f) d.0 (omega (arith, ints)) in
      let k = s.slot in
      record {
        b = s.b;
        r = s.r;
        c = 0;
        u = a.0;
        v = s.v;
        at = record {
          band = s.band;
          slot = s.slot;
          at_x = omega (arith, ints);
          at_y = d.1 ∙ ap pos s.is;
          in_x = omega (arith, ints);
        };
        thing = trunk;
        here = refl;
        cell = cell NM 7 0 13 36;
        among = inl refl;
        layer = c.same;
        inside = record {
          left = omega (arith, ints);
          right = omega (arith, ints);
          bottom = omega arith;
          top = omega arith;
        };
      }

  abbrev pub power_at : (l : Layer) (x y : ℤ) → Covers (power_trunk f) l x y → Local f l x y
  power_at l x y c =
      let a = natural x (500 * (20 * last_column f + 7)) c.left in
      let d = natural y 0 c.bottom in
      let e0 = c.right in let e1 = c.top in let e2 = a.1 in let e3 = d.1 in let e4 = a.2 in
      let s = spot f (bands f) d.0 (omega (arith, ints)) in
      let k = s.slot in
      record {
        b = s.b;
        r = s.r;
        c = last_column f;
        u = a.0 - 10000 * last_column f;
        v = s.v;
        at = record {
          band = s.band;
          slot = s.slot;
          at_x = omega (arith, ints);
          at_y = d.1 ∙ ap pos s.is;
          in_x = omega (arith, ints);
        };
        thing = power;
        here = refl;
        cell = cell NM 7 0 13 36;
        among = inl refl;
        layer = c.same;
        inside = record {
          left = omega (arith, ints);
          right = omega (arith, ints);
          bottom = omega arith;
          top = omega arith;
        };
      }

  pub ground_at : (b : ℕ) → b < bands f → (l : Layer) (x y : ℤ) → Covers (ground_row f b) l x y → Local f l x y
  ground_at b hb l x y c =
      let a = natural x 3500 c.left in
      let d = natural y (500 * (base f b + 6)) c.bottom in
      let e0 = c.right in let e1 = c.top in let e2 = a.1 in let e3 = d.1 in let e4 = a.2 in let e5 = d.2 in
      let i = some_rows f w b hb in
      let q = divided a.0 10000 (omega arith) in
      let g0 = q.is in let g1 = q.below in
      let at : At f b 0 q.quotient q.rest (d.0 - 500 * base f b) x y =
      record {
        band = hb;
        slot = inl (omega arith, omega (arith, ints));
        at_x = omega (arith, ints);
        at_y = omega (arith, ints);
        in_x = g1;
      } in
      elim (cases_lt 0 q.quotient) [
        | inl h ↦ record {
          b = b;
          r = 0;
          c = q.quotient;
          u = q.rest;
          v = d.0 - 500 * base f b;
          at = at;
          thing = ground_on;
          here = (omega arith, omega (arith, ints), refl);
          cell = cell NM 0 6 20 10;
          among = inl refl;
          layer = c.same;
          inside = record {
            left = omega arith;
            right = omega arith;
            bottom = omega (arith, ints);
            top = omega (arith, ints);
          };
        }
        | inr h ↦ record {
          b = b;
          r = 0;
          c = q.quotient;
          u = q.rest;
          v = d.0 - 500 * base f b;
          at = at;
          thing = ground_start;
          here = (omega arith, refl);
          cell = cell NM 7 6 20 10;
          among = inl refl;
          layer = c.same;
          inside = record {
            left = omega (arith, ints);
            right = omega arith;
            bottom = omega (arith, ints);
            top = omega (arith, ints);
          };
        }
      ]

  pub rail_at : (b : ℕ) → b < bands f → (l : Layer) (x y : ℤ) → Covers (power_rail f b) l x y → Local f l x y
  rail_at b hb l x y c =
      let a = natural x 10000 c.left in
      let d = natural y (500 * (base f b + 12 * rows_of f b + 27)) c.bottom in
      let e0 = c.right in let e1 = c.top in let e2 = a.1 in let e3 = d.1 in let e4 = a.2 in let e5 = d.2 in
      let q = divided a.0 10000 (omega arith) in
      let g0 = q.is in let g1 = q.below in
      let v : ℕ = d.0 - 500 * base f b - 6000 * rows_of f b in
      let at : At f b (rows_of f b) q.quotient q.rest v x y =
      record {
        band = hb;
        slot = inr (refl, omega (arith, ints));
        at_x = omega (arith, ints);
        at_y = omega (arith, ints);
        in_x = g1;
      } in
      elim (cases_lt q.quotient (last_column f)) [
        | inl h ↦ record {
          b = b;
          r = rows_of f b;
          c = q.quotient;
          u = q.rest;
          v = v;
          at = at;
          thing = rail;
          here = (omega arith, h, refl);
          cell = cell NM 0 27 20 31;
          among = inl refl;
          layer = c.same;
          inside = record {
            left = omega arith;
            right = omega arith;
            bottom = omega (arith, ints);
            top = omega (arith, ints);
          };
        }
        | inr h ↦ record {
          b = b;
          r = rows_of f b;
          c = q.quotient;
          u = q.rest;
          v = v;
          at = at;
          thing = rail_end;
          here = (omega (arith, ints), refl);
          cell = cell NM 0 27 13 31;
          among = inl refl;
          layer = c.same;
          inside = record {
            left = omega arith;
            right = omega (arith, ints);
            bottom = omega (arith, ints);
            top = omega (arith, ints);
          };
        }
      ]

  abbrev pub segment_at : (s : Segment) → Contains f.segments s → (l : Layer) (x y : ℤ)
      → Covers (segment_rect f s) l x y → Local f l x y
  segment_at s m l x y c =
      let a = natural x (500 * (20 * s.first)) c.left in
      let d = natural y (500 * (base f s.band + 12 * s.row + 6)) c.bottom in
      let e0 = c.right in let e1 = c.top in let e2 = a.1 in let e3 = d.1 in let e4 = a.2 in let e5 = d.2 in
      let i = segment_lies f w s m in let j = i.below in
      let q = divided a.0 10000 (omega arith) in
      let g0 = q.is in let g1 = q.below in
      record {
        b = s.band;
        r = s.row;
        c = q.quotient;
        u = q.rest;
        v = d.0 - 500 * base f s.band - 6000 * s.row;
        at = record {
          band = i.band;
          slot = inl (j, omega (arith, ints));
          at_x = omega (arith, ints);
          at_y = omega (arith, ints);
          in_x = g1;
        };
        thing = seg;
        here = record {
          segment = s;
          among = m;
          crosses = record
              { band = refl; row = refl; first = omega (arith, ints); last = omega (arith, ints) };
        };
        cell = cell NM 0 6 20 10;
        among = inl refl;
        layer = c.same;
        inside = record {
          left = omega arith;
          right = omega arith;
          bottom = omega (arith, ints);
          top = omega (arith, ints);
        };
      }

  pub two_offsets : (s : Side) → (offset s ≡ 2) ⊎ (offset s ≡ 14)
  two_offsets L = inl refl
  two_offsets R = inr refl

  abbrev pub line_at : (n : Line) → Contains f.lines n → (l : Layer) (x y : ℤ) → Covers (line_rect f n) l x y
      → Local f l x y
  line_at n m l x y c =
      let a = natural x (500 * (20 * n.column + offset n.side)) c.left in
      let d = natural y (500 * base f n.first_band) c.bottom in
      let e0 = c.right in let e1 = c.top in let e2 = a.1 in let e3 = d.1 in let e4 = a.2 in let e5 = d.2 in
      let i = line_lies f w n m in let i0 = i.last in let o = two_offsets n.side in
      let z0 = bands_lie f n.last_band (bands f) in
      let s = spot f (bands f) d.0 (omega (arith, ints)) in
      let k = s.slot in let k0 = s.is in
      let z1 = bands_lie f s.b n.first_band in
      let z2 = bands_lie f s.b n.last_band in
      record {
        b = s.b;
        r = s.r;
        c = n.column;
        u = a.0 - 10000 * n.column;
        v = s.v;
        at = record {
          band = s.band;
          slot = s.slot;
          at_x = omega (arith, ints);
          at_y = d.1 ∙ ap pos s.is;
          in_x = omega (arith, ints);
        };
        thing = lin n.side;
        here = (
          n,
          m,
          record { column = refl; at_side = refl; first = omega (arith, ints); last = omega (arith, ints) },
          elim (cases_lt s.b n.last_band) [ inl h ↦ inr h | inr h ↦ inl (omega (arith, ints)) ],
        );
        cell = cell ND (offset n.side) 0 (offset n.side + 4) 36;
        among = inl refl;
        layer = c.same;
        inside = record {
          left = omega (arith, ints);
          right = omega (arith, ints);
          bottom = omega arith;
          top = omega arith;
        };
      }

  -- a cell of a tile of a mark lies in the tile
  placed_at : (b r c : ℕ) (t : Thing) (k : Cell) → b < bands f → Here f b r c t → Member (cells_of t) k → k.x1 ≤ 20
      → (r < rows_of f b) × (k.y1 ≤ 12) ⊎ (r ≡ rows_of f b) × (k.y1 ≤ 36)
      → (l : Layer) (x y : ℤ) → Covers (placed (20 * c) (base f b + 12 * r + 0) k) l x y → Local f l x y
  placed_at b r c t k hb h m wide high l x y n =
      let a = natural x (500 * (20 * c + k.x0)) n.left in
      let d = natural y (500 * (base f b + 12 * r + 0 + k.y0)) n.bottom in
      let e0 = n.right in let e1 = n.top in let e2 = a.1 in let e3 = d.1 in let e4 = a.2 in let e5 = d.2 in
      let v : ℕ = d.0 - 500 * base f b - 6000 * r in
      let slot : Slot f b r v = elim high [
        | inl g ↦ (let g0 = g.0 in let g1 = g.1 in inl (g0, omega (arith, ints)))
        | inr g ↦ (let g0 = g.0 in let g1 = g.1 in inr (g0, omega (arith, ints)))
      ] in
      record {
        b = b;
        r = r;
        c = c;
        u = a.0 - 10000 * c;
        v = v;
        at = record {
          band = hb;
          slot = slot;
          at_x = omega (arith, ints);
          at_y = omega (arith, ints);
          in_x = omega (arith, ints);
        };
        thing = t;
        here = h;
        cell = k;
        among = m;
        layer = n.same;
        inside = record {
          left = omega (arith, ints);
          right = omega (arith, ints);
          bottom = omega (arith, ints);
          top = omega (arith, ints);
        };
      }

  fits_by : (h : ℕ) (ks : List Cell) (k : Cell) → every (fits h) ks ≡ true → Member ks k → (k.x1 ≤ 20) × (k.y1 ≤ h)
  fits_by h ks k e m =
      let b = and_parts (leb k.x1 20) (leb k.y1 h) (every_at (fits h) ks k e m) in
      (leb-true k.x1 20 b.0, leb-true k.y1 h b.1)

  row_tile : (t : Tile) → every (fits 12) (cells t) ≡ true → (b r c : ℕ) → MarkAt f t b r c
      → (t ≡ Under → r < rows_of f b) → b < bands f → r < rows_of f b → (l : Layer) (x y : ℤ)
      → covered (map (placed (20 * c) (base f b + 12 * r + 0)) (cells t)) l x y → Local f l x y
  row_tile t e b r c m g hb hr l x y h =
      let k = covered_map (placed (20 * c) (base f b + 12 * r + 0)) (cells t) l x y h in
      let n = fits_by 12 (cells t) k.0 e k.1 in
      placed_at b r c (mark t) k.0 hb (m, g) k.1 n.0 (inl (hr, n.1)) l x y k.2

  tile_at : (t : Tile) (b r c : ℕ) → MarkAt f t b r c → b < bands f → RowOf f t b r → (l : Layer) (x y : ℤ)
      → covered (tile_rects f t b r c) l x y → Local f l x y
  tile_at TapL b r c m hb hr l x y h = row_tile TapL refl b r c m (λ e. absurd (cc (e))) hb hr l x y h
  tile_at TapR b r c m hb hr l x y h = row_tile TapR refl b r c m (λ e. absurd (cc (e))) hb hr l x y h
  tile_at Tran b r c m hb hr l x y h = row_tile Tran refl b r c m (λ e. absurd (cc (e))) hb hr l x y h
  tile_at PullUp b r c m hb hr l x y h =
      let k = covered_map (placed (20 * c) (base f b + 12 * r + 0)) (cells PullUp) l x y h in
      let n = fits_by 36 (cells PullUp) k.0 refl k.1 in
      placed_at b r c (mark PullUp) k.0 hb (m, λ e. absurd (cc (e))) k.1 n.0 (inr (hr, n.1)) l x y k.2
  tile_at Under b r c m hb (inl hr) l x y h =
      let e : cond (eqb r (rows_of f b)) 21 0 ≡ 0 = ap (λ z. cond z 21 0) (ne_eqb r (rows_of f b) (λ e. omega arith)) in
      row_tile Under refl b r c m (λ z. hr) hb hr l x y
      (subst (λ z. covered (map (placed (20 * c) (base f b + 12 * r + z)) (cells Under)) l x y) e h)
  tile_at Under b r c m hb (inr hr) l x y h =
      let e : cond (eqb r (rows_of f b)) 21 0 ≡ 21 = ap (λ z. cond z 21 0) (eq-eqb r (rows_of f b) hr) in
      let k = covered_map (placed (20 * c) (base f b + 12 * r + 21)) (cells Under) l x y
      (subst (λ z. covered (map (placed (20 * c) (base f b + 12 * r + z)) (cells Under)) l x y) e h) in
      let i : Member (cells_of under_rail) (raised k.0) = map_member raised (cells Under) k.0 k.1 in
      let n = fits_by 36 (cells_of under_rail) (raised k.0) refl i in
      let e0 = k.2.bottom in let e1 = k.2.top in
      placed_at b r c under_rail (raised k.0) hb (m, hr) i n.0 (inr (hr, n.1)) l x y
      (record {
        same = k.2.same;
        left = k.2.left;
        right = k.2.right;
        bottom = omega (arith, ints);
        top = omega (arith, ints);
      })

  mark_at : (m : Mark) → Contains f.marks m → (l : Layer) (x y : ℤ) → covered (mark_rects f m) l x y → Local f l x y
  mark_at m h l x y c =
      let k = mark_lies f w m h in
      tile_at m.tile m.band m.row m.column
      (record { mark_ = m; among = h; tile = refl; band = refl; row = refl; column = refl }) k.band k.row l x y c

  bands_at : (l : Layer) (x y : ℤ) (b : ℕ) → Member (range_with_len 0 (bands f)) b
      → covered (ground_row f b ∷ power_rail f b ∷ []) l x y → Local f l x y
  bands_at l x y b m (inl c) = ground_at b (omega (arith, range_members 0 (bands f) b m)) l x y c
  bands_at l x y b m (inr (inl c)) = rail_at b (omega (arith, range_members 0 (bands f) b m)) l x y c
  bands_at l x y b m (inr (inr c)) = absurd c

  marks_at : (l : Layer) (x y : ℤ) → covered (flat_map (mark_rects f) f.marks) l x y → Local f l x y
  marks_at l x y h = let k = covered_flat (mark_rects f) f.marks l x y h in
      mark_at k.0 (member_contains f.marks k.0 k.1) l x y k.2

  lines_at : (l : Layer) (x y : ℤ) → covered (map (line_rect f) f.lines ++ flat_map (mark_rects f) f.marks) l x y
      → Local f l x y
  lines_at l x y h = elim (covered_append (map (line_rect f) f.lines) (flat_map (mark_rects f) f.marks) l x y h) [
    | inl a ↦ (let k = covered_map (line_rect f) f.lines l x y a in
        line_at k.0 (member_contains f.lines k.0 k.1) l x y k.2)
    | inr a ↦ marks_at l x y a
  ]

  segments_at : (l : Layer) (x y : ℤ) → covered (map (segment_rect f) f.segments
      ++ (map (line_rect f) f.lines ++ flat_map (mark_rects f) f.marks)) l x y → Local f l x y
  segments_at l x y h = elim (covered_append (map (segment_rect f) f.segments)
      (map (line_rect f) f.lines ++ flat_map (mark_rects f) f.marks) l x y h) [
        | inl a ↦ (let k = covered_map (segment_rect f) f.segments l x y a in
            segment_at k.0 (member_contains f.segments k.0 k.1) l x y k.2)
        | inr a ↦ lines_at l x y a
      ]

  -- What covers a square stands at its tile.
  pub local_of : (l : Layer) (x y : ℤ) → covered (shape f) l x y → Local f l x y
  local_of l x y (inl c) = trunk_at l x y c
  local_of l x y (inr (inl c)) = power_at l x y c
  local_of l x y (inr (inr h)) =
      elim (covered_append (flat_map (band_rects f) (range_with_len 0 (bands f)))
      (map (segment_rect f) f.segments ++ (map (line_rect f) f.lines ++ flat_map (mark_rects f) f.marks)) l x y h) [
        | inl a ↦ (let k = covered_flat (band_rects f)
            (range_with_len 0 (bands f)) l x y a in bands_at l x y k.0 k.1 k.2)
        | inr a ↦ segments_at l x y a
      ]
