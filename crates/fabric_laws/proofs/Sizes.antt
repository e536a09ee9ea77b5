-- How large the channels of a fabric are, and which way current runs through them.
use Rattle.std.proofs.Common.{ℕ, ◌≡◌, ◌+◌, ◌*◌, inl, inr, refl, sym, subst, arith}
use Rattle.std.specs.Prelude.{◌↔◌, pos, ◌+ℤ◌}
use Rattle.std.proofs.lemmas.Int.{ints}
use Rattle.mp_base.proofs.Members.{Member}
use Rattle.lam_geom.specs.declared.layer.Layer.TheVariants.{ND, NP}
use Rattle.lam_geom.specs.declared.rect.Rect.{Rect}
use Rattle.lam_geom.specs.Squares.{Square, IsIn, covered, RectanglesAreJoined}
use Rattle.switch_net.specs.Conductors.{ConductsOn, Conducts}
use Rattle.switch_net.specs.Drawn.{IsOfChannel, IsEnd}
use Rattle.tile_cells.specs.declared.tile.Tile.TheVariants.{Tran, PullUp}
use Rattle.tile_cells.specs.Tiles.{Cell, cell}
use Rattle.fabric.specs.declared.thing.Side.TheVariants.{L, R}
use Rattle.fabric.specs.declared.thing.Mark.{Mark}
use Rattle.fabric.specs.Plan.{Plan, IsFabric}
use Rattle.fabric.specs.Shape.{base, shape}
use Rattle.fabric_laws.specs.Sized.{outline, IsLeftOrRight, IsBelowOrAbove, IsSized, AreSized, FabricsAreSized}
use Rattle.fabric_laws.specs.Sized.IsSized.{transistor, pull_up}
use Rattle.fabric_laws.proofs.Tile.Thing.{mark}
use Rattle.fabric_laws.proofs.Tables.{part, parts, channels}
use Rattle.fabric_laws.proofs.Tables.Kind.{of_power, of_line}
use Rattle.fabric_laws.proofs.Channels.{OfMark, mark_of, of_mark, chain_mark, channel_whole, channel_rect, in_channel}
use Rattle.fabric_laws.proofs.Channels.{in_mark}
use Rattle.fabric_laws.proofs.Channels.{one_cell, bare, implanted, IsSwitchTile, has_channel}
use Rattle.fabric_laws.proofs.Ends.{on_layer, below_or_above, left_or_right, upright, level, is_end}

module _ (joined : RectanglesAreJoined) (f : Plan) (w : IsFabric f) where
  -- the channel of a square is that of its mark
  of_channel : (m : Mark) (r s : Square) → OfMark f m r → IsOfChannel (covered (shape f)) r s → OfMark f m s
  of_channel m r s o h = chain_mark f w m r s h.chain o

  whole : (m : Mark) (r s : Square) (o : OfMark f m r) → IsOfChannel (covered (shape f)) r s
      ↔ IsIn (channel_rect f w m o.cell) s
  whole m r s o = (
    λ h. (
        let p = of_channel m r s o h in
        subst (λ k. IsIn (channel_rect f w m k) s) (one_cell f w m.tile p.cell o.cell p.among o.among)
        (in_channel f w m s p)),
    λ i. (
        let p = in_mark f w m o.cell o.in_marks o.among s i in
        record { is = of_mark f w m s p; chain = channel_whole f w joined m r s o p }),
  )

  -- a channel of the mark, from the lower left corner of a cell of its tile
  abbrev at_mark : Mark → Cell → ℕ → ℕ → Rect
  at_mark m k wide high = outline (pos (10000 * m.column + 500 * k.x0))
      (pos (500 * base f m.band + 6000 * m.row + 500 * k.y0)) wide high

  squares : (m : Mark) (r : Square) (o : OfMark f m r) (k : Cell) (wide high : ℕ) → k ≡ o.cell → k.x1 ≡ k.x0 + wide
      → k.y1 ≡ k.y0 + high → (s : Square) → IsOfChannel (covered (shape f)) r s ↔ IsIn (at_mark m k wide high) s
  squares m r o k wide high e a b s = (
    λ h. (
        let i = subst (λ z. IsIn (channel_rect f w m z) s) (sym e) ((whole m r s o).0 h) in
        let i0 = i.left in let i1 = i.right in let i2 = i.bottom in let i3 = i.top in
        record { same = i.same; left = i0; right = omega (arith, ints); bottom = i2; top = omega (arith, ints) }),
    λ i. (whole m r s o).1 (subst (λ z. IsIn (channel_rect f w m z) s) e (
        let i0 = i.left in let i1 = i.right in let i2 = i.bottom in let i3 = i.top in
        record { same = i.same; left = i0; right = omega (arith, ints); bottom = i2; top = omega (arith, ints) })),
  )

  -- diffusion that conducts isn't of a channel
  outside : (r t : Square) (q : Rect) → (IsIn q (on_layer q t) → IsOfChannel (covered (shape f)) r (on_layer q t))
      → t.layer ≡ ND → Conducts (covered (shape f)) t → ¬ IsIn q (on_layer q t)
  outside r t q of d h i = (subst (λ l. ConductsOn (covered (shape f)) l t.x t.y) d h).1 (of i).is.1

  module _ (m : Mark) (r : Square) (o : OfMark f m r) (e : m.tile ≡ PullUp) where
    abbrev upright_rect : Rect
    upright_rect = at_mark m (cell NP 3 8 5 24) 2 16

    upright_squares : (s : Square) → IsOfChannel (covered (shape f)) r s ↔ IsIn upright_rect s
    upright_squares =
        let k : cell NP 3 8 5 24 ≡ o.cell = elim (subst (λ z. Member (channels (mark z)) o.cell) e o.among)
        [ inl q ↦ q | inr q ↦ absurd q ] in
        squares m r o (cell NP 3 8 5 24) 2 16 k refl refl

    below_end : (t : Square) → t.layer ≡ ND → IsBelowOrAbove upright_rect t → t.y +ℤ pos 1 ≡ upright_rect.y0
        → IsEnd (covered (shape f)) r t
    below_end t d b g =
        let s : Square = record { layer = NP; x = t.x; y = t.y +ℤ pos 1 } in
        let b0 = b.left in let b1 = b.right in
        let of = (upright_squares s).1 (record {
          same = refl;
          left = b0;
          right = b1;
          bottom = omega (arith, ints);
          top = omega (arith, ints);
        }) in
        let p = of_channel m r s o of in let p0 = p.at.at_x in let p1 = p.at.at_y in
        let foot = part (of_line L) ND 3 6 5 8 in
        is_end f w m r s t p of (inr (refl, inr refl)) d foot p.u 3999 (omega arith) (omega (arith, ints)) p0
        (omega (arith, ints))
        (subst (λ z. Member (parts (mark z)) foot) (sym e) (inr (inr (inr (inr (inl refl)))))) refl
        (record {
          left = omega (arith, ints);
          right = omega (arith, ints);
          bottom = omega arith;
          top = omega arith;
        })

    above_end : (t : Square) → t.layer ≡ ND → IsBelowOrAbove upright_rect t → t.y ≡ upright_rect.y1
        → IsEnd (covered (shape f)) r t
    above_end t d b g =
        let s : Square = record { layer = NP; x = t.x; y = pos (500 * base f m.band + 6000 * m.row + 11999) } in
        let b0 = b.left in let b1 = b.right in
        let of = (upright_squares s).1 (record {
          same = refl;
          left = b0;
          right = b1;
          bottom = omega (arith, ints);
          top = omega (arith, ints);
        }) in
        let p = of_channel m r s o of in let p0 = p.at.at_x in let p1 = p.at.at_y in
        let head = part of_power ND 3 24 5 27 in
        is_end f w m r s t p of (inr (refl, inl (omega (arith, ints)))) d head p.u 12000 (omega arith)
        (omega (arith, ints)) p0 (omega (arith, ints))
        (subst (λ z. Member (parts (mark z)) head) (sym e) (inr (inr (inr (inr (inr (inl refl))))))) refl
        (record {
          left = omega (arith, ints);
          right = omega (arith, ints);
          bottom = omega arith;
          top = omega arith;
        })

    upright_ends : (t : Square) → IsEnd (covered (shape f)) r t ↔ (t.layer ≡ ND) × IsBelowOrAbove upright_rect t
    upright_ends t = (
      λ h. (
          let p = of_channel m r h.square o h.of in (
            h.diffusion,
            below_or_above upright_rect h.square t ((upright_squares h.square).0 h.of)
                (upright f w m h.square t p e h.diffusion h.beside h.conducts) h.beside
                (outside r t upright_rect (upright_squares (on_layer upright_rect t)).1 h.diffusion h.conducts),
          )),
      λ (d, b). elim b.beside [ inl g ↦ below_end t d b g | inr g ↦ above_end t d b g ],
    )

  module _ (m : Mark) (r : Square) (o : OfMark f m r) (e : m.tile ≡ Tran) where
    abbrev level_rect : Rect
    level_rect = at_mark m (cell NP 9 2 11 4) 2 2

    level_squares : (s : Square) → IsOfChannel (covered (shape f)) r s ↔ IsIn level_rect s
    level_squares =
        let k : cell NP 9 2 11 4 ≡ o.cell = elim (subst (λ z. Member (channels (mark z)) o.cell) e o.among)
        [ inl q ↦ q | inr q ↦ absurd q ] in
        squares m r o (cell NP 9 2 11 4) 2 2 k refl refl

    left_end : (t : Square) → t.layer ≡ ND → IsLeftOrRight level_rect t → t.x +ℤ pos 1 ≡ level_rect.x0
        → IsEnd (covered (shape f)) r t
    left_end t d b g =
        let s : Square = record { layer = NP; x = t.x +ℤ pos 1; y = t.y } in
        let b0 = b.bottom in let b1 = b.top in
        let of = (level_squares s).1 (record {
          same = refl;
          left = omega (arith, ints);
          right = omega (arith, ints);
          bottom = b0;
          top = b1;
        }) in
        let p = of_channel m r s o of in let p0 = p.at.at_x in let p1 = p.at.at_y in
        let arm = part (of_line L) ND 6 2 9 4 in
        is_end f w m r s t p of (inl (refl, inr refl)) d arm 4499 p.v (omega (arith, ints)) (omega arith)
        (omega (arith, ints)) p1
        (subst (λ z. Member (parts (mark z)) arm) (sym e) (inl refl)) refl
        (record {
          left = omega arith;
          right = omega arith;
          bottom = omega (arith, ints);
          top = omega (arith, ints);
        })

    right_end : (t : Square) → t.layer ≡ ND → IsLeftOrRight level_rect t → t.x ≡ level_rect.x1
        → IsEnd (covered (shape f)) r t
    right_end t d b g =
        let s : Square = record { layer = NP; x = pos (10000 * m.column + 5499); y = t.y } in
        let b0 = b.bottom in let b1 = b.top in
        let of = (level_squares s).1 (record {
          same = refl;
          left = omega (arith, ints);
          right = omega (arith, ints);
          bottom = b0;
          top = b1;
        }) in
        let p = of_channel m r s o of in let p0 = p.at.at_x in let p1 = p.at.at_y in
        let arm = part (of_line R) ND 11 2 14 4 in
        is_end f w m r s t p of (inl (refl, inl (omega (arith, ints)))) d arm 5500 p.v (omega (arith, ints))
        (omega arith) (omega (arith, ints)) p1
        (subst (λ z. Member (parts (mark z)) arm) (sym e) (inr (inl refl))) refl
        (record {
          left = omega arith;
          right = omega arith;
          bottom = omega (arith, ints);
          top = omega (arith, ints);
        })

    level_ends : (t : Square) → IsEnd (covered (shape f)) r t ↔ (t.layer ≡ ND) × IsLeftOrRight level_rect t
    level_ends t = (
      λ h. (
          let p = of_channel m r h.square o h.of in (
            h.diffusion,
            left_or_right level_rect h.square t ((level_squares h.square).0 h.of)
                (level f w m h.square t p e h.diffusion h.beside h.conducts) h.beside
                (outside r t level_rect (level_squares (on_layer level_rect t)).1 h.diffusion h.conducts),
          )),
      λ (d, b). elim b.beside [ inl g ↦ left_end t d b g | inr g ↦ right_end t d b g ],
    )

  sized_at : (m : Mark) (r : Square) (o : OfMark f m r) → IsSwitchTile m.tile → IsSized (covered (shape f)) r
  sized_at m r o (inl e) =
      transistor (λ s h. λ n. bare f w m s (of_channel m r s o h) e n)
      (record {
        left = (level_rect m r o e).x0;
        low = (level_rect m r o e).y0;
        squares = level_squares m r o e;
        ends = level_ends m r o e;
      })
  sized_at m r o (inr e) =
      pull_up (λ s h. implanted f w m s (of_channel m r s o h) e)
      (record {
        left = (upright_rect m r o e).x0;
        low = (upright_rect m r o e).y0;
        squares = upright_squares m r o e;
        ends = upright_ends m r o e;
      })

  pub sized : AreSized (covered (shape f))
  sized r h = let m = mark_of f w r h in sized_at m.0 r m.1 (has_channel m.0.tile m.1.cell m.1.among)

pub are_sized : RectanglesAreJoined → FabricsAreSized
are_sized joined f w = sized joined f w
