-- What stands at a tile covers its places there.
use Rattle.std.proofs.Common.{ℕ, ◌≡◌, ◌+◌, ◌*◌, ◌<◌, inl, inr, refl, sym, ap, subst, arith, eqb, [], ◌∷◌, ◌++◌, map}
use Rattle.std.proofs.Common.{Contains}
use Rattle.std.specs.Prelude.{ℤ, flat_map, cond}
use Rattle.std.specs.List.{range_with_len}
use Rattle.std.proofs.lemmas.Int.{ints}
use Rattle.std.proofs.lemmas.Bool.{eq-eqb, ne_eqb}
use Rattle.mp_base.proofs.Members.{Member, contains_member, range_has, member_map}
use Rattle.lam_geom.specs.declared.layer.Layer.{Layer}
use Rattle.lam_geom.specs.declared.layer.Layer.TheVariants.{ND, NM}
use Rattle.lam_geom.specs.Squares.{covered}
use Rattle.tile_cells.specs.declared.tile.Tile.{Tile}
use Rattle.tile_cells.specs.declared.tile.Tile.TheVariants.{TapL, TapR, Tran, PullUp, Under}
use Rattle.tile_cells.specs.Tiles.{Cell, cells}
use Rattle.fabric.specs.declared.thing.Mark.{Mark}
use Rattle.fabric.specs.Plan.{Plan, bands, rows_of, IsFabric}
use Rattle.fabric.specs.Shape.{base, offset, ground_row, power_rail, band_rects, segment_rect, line_rect, placed}
use Rattle.fabric.specs.Shape.{tile_rects}
use Rattle.fabric.specs.Shape.{mark_rects, shape}
use Rattle.fabric_laws.proofs.Tile.{Thing, cells_of, raised, Here, MarkAt, Inside, At}
use Rattle.fabric_laws.proofs.Tile.Thing.{trunk, power, ground_start, ground_on, rail, rail_end, seg, lin, mark}
use Rattle.fabric_laws.proofs.Tile.Thing.{under_rail}
use Rattle.fabric.proofs.Bases.{bands_lie}
use Rattle.fabric_laws.proofs.Lists.{append_covered, map_covered, flat_covered}

module _ (f : Plan) (w : IsFabric f) (l : Layer) (x y : ℤ) where
  from_bands : (b : ℕ) → b < bands f → covered (ground_row f b ∷ power_rail f b ∷ []) l x y → covered (shape f) l x y
  from_bands b h c = inr
      (inr (append_covered (flat_map (band_rects f) (range_with_len 0 (bands f))) _ l x y
      (inl (flat_covered (band_rects f) (range_with_len 0 (bands f)) l x y b
      (range_has 0 (bands f) b (omega arith) (omega arith)) c))))

  past_bands : covered (map (segment_rect f) f.segments
      ++ (map (line_rect f) f.lines ++ flat_map (mark_rects f) f.marks)) l x y → covered (shape f) l x y
  past_bands c = inr
      (inr (append_covered (flat_map (band_rects f) (range_with_len 0 (bands f))) _ l x y
      (inr c)))

  past_segments : covered (map (line_rect f) f.lines ++ flat_map (mark_rects f) f.marks) l x y → covered (shape f) l x y
  past_segments c = past_bands (append_covered (map (segment_rect f) f.segments) _ l x y (inr c))

  from_marks : (m : Mark) → Contains f.marks m → covered (mark_rects f m) l x y → covered (shape f) l x y
  from_marks m h c = past_segments (append_covered (map (line_rect f) f.lines) _ l x y
      (inr (flat_covered (mark_rects f) f.marks l x y m (contains_member f.marks m h) c)))

  from_tile : (t : Tile) (b r c : ℕ) → MarkAt f t b r c → covered (tile_rects f t b r c) l x y → covered (shape f) l x y
  from_tile t b r c m h =
      let e : mark_rects f m.mark_ ≡ tile_rects f t b r c = λ i. tile_rects f (m.tile i) (m.band i) (m.row i)
      (m.column i) in
      from_marks m.mark_ m.among (subst (λ z. covered z l x y) (sym e) h)

module _ (f : Plan) (w : IsFabric f) where
  -- the place in the tile, as numbers
  one : (P : Cell → Type 0) (k k0 : Cell) → k0 ≡ k → (P k0) → P k
  one P k k0 e h = subst P e h

  -- What stands at the tile of a square, and covers its place there, covers the square.
  pub drawn_at : (t : Thing) (k : Cell) (b r c u v : ℕ) (x y : ℤ) → Member (cells_of t) k → Here f b r c t
      → At f b r c u v x y → Inside k u v → covered (shape f) k.layer x y
  drawn_at trunk k b r c u v x y (inl e) h a =
      subst (λ z. Inside z u v → covered (shape f) z.layer x y) e
      (λ i. let a0 = a.at_x in let a1 = a.at_y in let a2 = a.slot in let a3 = a.band in let i0 = i.left in
      let i1 = i.right in
      let z = bands_lie f b (bands f) in
      inl (record {
        same = refl;
        left = omega (arith, ints);
        right = omega (arith, ints);
        bottom = omega (arith, ints);
        top = omega (arith, ints);
      }))
  drawn_at trunk k b r c u v x y (inr m) h a = absurd m
  drawn_at power k b r c u v x y (inl e) h a =
      subst (λ z. Inside z u v → covered (shape f) z.layer x y) e
      (λ i. let a0 = a.at_x in let a1 = a.at_y in let a2 = a.slot in let a3 = a.band in let i0 = i.left in
      let i1 = i.right in
      let z = bands_lie f b (bands f) in
      inr
      (inl (record {
        same = refl;
        left = omega (arith, ints);
        right = omega (arith, ints);
        bottom = omega (arith, ints);
        top = omega (arith, ints);
      })))
  drawn_at power k b r c u v x y (inr m) h a = absurd m
  drawn_at ground_start k b r c u v x y (inl e) h a =
      subst (λ z. Inside z u v → covered (shape f) z.layer x y) e
      (λ i. let a0 = a.at_x in let a1 = a.at_y in let a3 = a.band in let i0 = i.left in let i1 = i.right in
      let i2 = i.bottom in let i3 = i.top in let h0 = h.0 in let h1 = h.1 in let q = w.columns in
      from_bands f w NM x y b a.band
      (inl (record {
        same = refl;
        left = omega (arith, ints);
        right = omega (arith, ints);
        bottom = omega (arith, ints);
        top = omega (arith, ints);
      })))
  drawn_at ground_start k b r c u v x y (inr m) h a = absurd m
  drawn_at ground_on k b r c u v x y (inl e) h a =
      subst (λ z. Inside z u v → covered (shape f) z.layer x y) e
      (λ i. let a0 = a.at_x in let a1 = a.at_y in let a4 = a.in_x in let i0 = i.left in let i1 = i.right in
      let i2 = i.bottom in let i3 = i.top in let h0 = h.0 in let h1 = h.1 in let h2 = h.2 in
      from_bands f w NM x y b a.band
      (inl (record {
        same = refl;
        left = omega (arith, ints);
        right = omega (arith, ints);
        bottom = omega (arith, ints);
        top = omega (arith, ints);
      })))
  drawn_at ground_on k b r c u v x y (inr m) h a = absurd m
  drawn_at rail k b r c u v x y (inl e) h a =
      subst (λ z. Inside z u v → covered (shape f) z.layer x y) e
      (λ i. let a0 = a.at_x in let a1 = a.at_y in let a4 = a.in_x in let i0 = i.left in let i1 = i.right in
      let i2 = i.bottom in let i3 = i.top in let h0 = h.0 in let h1 = h.1 in let h2 = h.2 in
      from_bands f w NM x y b a.band
      (inr
      (inl (record {
        same = refl;
        left = omega (arith, ints);
        right = omega (arith, ints);
        bottom = omega (arith, ints);
        top = omega (arith, ints);
      }))))
  drawn_at rail k b r c u v x y (inr m) h a = absurd m
  drawn_at rail_end k b r c u v x y (inl e) h a =
      subst (λ z. Inside z u v → covered (shape f) z.layer x y) e
      (λ i. let a0 = a.at_x in let a1 = a.at_y in let a4 = a.in_x in let i0 = i.left in let i1 = i.right in
      let i2 = i.bottom in let i3 = i.top in let h0 = h.0 in let h1 = h.1 in let q = w.columns in
      from_bands f w NM x y b a.band
      (inr
      (inl (record {
        same = refl;
        left = omega (arith, ints);
        right = omega (arith, ints);
        bottom = omega (arith, ints);
        top = omega (arith, ints);
      }))))
  drawn_at rail_end k b r c u v x y (inr m) h a = absurd m
  drawn_at seg k b r c u v x y (inl e) h a =
      subst (λ z. Inside z u v → covered (shape f) z.layer x y) e
      (λ i. let a0 = a.at_x in let a1 = a.at_y in let a4 = a.in_x in let i0 = i.left in let i1 = i.right in
      let i2 = i.bottom in let i3 = i.top in
      let s = h.segment in let p = h.crosses in let p0 = p.band in let p1 = p.row in let p2 = p.first in
      let p3 = p.last in
      let g : base f s.band ≡ base f b = ap (base f) p.band in
      past_bands f w NM x y (append_covered (map (segment_rect f) f.segments) _ NM x y
      (inl (map_covered (segment_rect f) f.segments NM x y s (contains_member f.segments s h.among)
      (record {
        same = refl;
        left = omega (arith, ints);
        right = omega (arith, ints);
        bottom = omega (arith, ints);
        top = omega (arith, ints);
      })))))
  drawn_at seg k b r c u v x y (inr m) h a = absurd m
  drawn_at (lin s) k b r c u v x y (inl e) (n, mn, p, g) a =
      subst (λ z. Inside z u v → covered (shape f) z.layer x y) e
      (λ i. let a0 = a.at_x in let a1 = a.at_y in let a2 = a.slot in let i0 = i.left in let i1 = i.right in
      let i2 = i.bottom in let i3 = i.top in
      let p0 = p.column in let p1 = p.first in let p2 = p.last in
      let o : offset n.side ≡ offset s = ap offset p.at_side in
      let z1 = bands_lie f n.first_band b in
      let z2 = bands_lie f b n.last_band in
      past_segments f w ND x y (append_covered (map (line_rect f) f.lines) _ ND x y
      (inl (map_covered (line_rect f) f.lines ND x y n (contains_member f.lines n mn)
      (record {
        same = refl;
        left = omega (arith, ints);
        right = omega (arith, ints);
        bottom = omega (arith, ints);
        top = omega (arith, ints);
      })))))
  drawn_at (lin s) k b r c u v x y (inr m) h a = absurd m
  drawn_at (mark t) k b r c u v x y m h a = λ i. from_tile f w k.layer x y t b r c h.0 (at_tile t m (λ e. h.1 e) i)
    where
      placed_here : (t : Tile) → Member (cells t) k → Inside k u v
          → covered (map (placed (20 * c) (base f b + 12 * r + 0)) (cells t)) k.layer x y
      placed_here t m i =
          let a0 = a.at_x in let a1 = a.at_y in let i0 = i.left in let i1 = i.right in let i2 = i.bottom in
          let i3 = i.top in
          map_covered (placed (20 * c) (base f b + 12 * r + 0)) (cells t) k.layer x y k m
          (record {
            same = refl;
            left = omega (arith, ints);
            right = omega (arith, ints);
            bottom = omega (arith, ints);
            top = omega (arith, ints);
          })

      at_tile : (t : Tile) → Member (cells t) k → (t ≡ Under → r < rows_of f b) → Inside k u v
          → covered (tile_rects f t b r c) k.layer x y
      at_tile TapL m g i = placed_here TapL m i
      at_tile TapR m g i = placed_here TapR m i
      at_tile Tran m g i = placed_here Tran m i
      at_tile PullUp m g i = placed_here PullUp m i
      at_tile Under m g i =
          let h = g refl in
          let e : cond (eqb r (rows_of f b)) 21 0 ≡ 0 = ap (λ z. cond z 21 0)
          (ne_eqb r (rows_of f b) (λ e. omega arith)) in
          subst (λ z. covered (map (placed (20 * c) (base f b + 12 * r + z)) (cells Under)) k.layer x y) (sym e)
          (placed_here Under m i)
  drawn_at under_rail k b r c u v x y m h a =
      let n = member_map raised (cells Under) k m in
      subst (λ z. Inside z u v → covered (shape f) z.layer x y) n.2
      (λ i. let a0 = a.at_x in let a1 = a.at_y in let i0 = i.left in let i1 = i.right in let i2 = i.bottom in
      let i3 = i.top in
      let e : cond (eqb r (rows_of f b)) 21 0 ≡ 21 = ap (λ z. cond z 21 0) (eq-eqb r (rows_of f b) h.1) in
      from_tile f w n.0.layer x y Under b r c h.0
      (subst (λ z. covered (map (placed (20 * c) (base f b + 12 * r + z)) (cells Under)) n.0.layer x y) (sym e)
      (map_covered (placed (20 * c) (base f b + 12 * r + 21)) (cells Under) n.0.layer x y n.0 n.1
      (record {
        same = refl;
        left = omega (arith, ints);
        right = omega (arith, ints);
        bottom = omega (arith, ints);
        top = omega (arith, ints);
      }))))
