-- On which sides of the channels of a fabric their ends lie.
use Rattle.std.proofs.Common.{ℕ, ◌≡◌, ◌+◌, ◌*◌, ◌≤◌, ◌⊎◌, inl, inr, refl, sym, ◌∙◌, ap, arith, true, false, not}
use Rattle.std.proofs.Common.{◌&&◌, ◌||◌}
use Rattle.std.specs.Prelude.{pos, ◌+ℤ◌, ◌≤ℤ◌, ◌<ℤ◌}
use Rattle.std.proofs.lemmas.Int.{ints, by_lt_z}
use Rattle.std.proofs.lemmas.Bool.{and_from, or_left, or_right}
use Rattle.mp_base.proofs.Members.{Member}
use Rattle.lam_geom.specs.declared.layer.Layer.TheVariants.{ND}
use Rattle.lam_geom.specs.declared.rect.Rect.{Rect}
use Rattle.lam_geom.specs.Squares.{Square, ShareEdge, IsIn, covered}
use Rattle.switch_net.specs.Conductors.{Conducts}
use Rattle.switch_net.specs.Drawn.{IsOfChannel, IsEnd}
use Rattle.tile_cells.specs.declared.tile.Tile.TheVariants.{Tran, PullUp}
use Rattle.fabric.specs.declared.thing.Mark.{Mark}
use Rattle.fabric.specs.Plan.{Plan, IsFabric}
use Rattle.fabric.specs.Shape.{base, shape}
use Rattle.fabric_laws.specs.Sized.{IsLeftOrRight, IsBelowOrAbove}
use Rattle.fabric_laws.proofs.Tile.{Here, Inside, At}
use Rattle.fabric_laws.proofs.Tile.Thing.{mark}
use Rattle.fabric_laws.proofs.Spots.{SameTile, move}
use Rattle.fabric_laws.proofs.Zones.{row_at, are_together}
use Rattle.fabric_laws.proofs.Conductors.{Owner, follows, layer_is}
use Rattle.fabric_laws.proofs.Owners.{owner_of, owner_conducts}
use Rattle.fabric_laws.proofs.Joins.{is_right_of, is_upon}
use Rattle.fabric_laws.proofs.Channels.{OfMark, near, near_tile, here_mark, has_channel, inner, at_ends}
use Rattle.fabric_laws.proofs.Channels.Near.{to_right_, to_left_, to_top_, to_bottom_}
use Rattle.fabric_laws.proofs.Tables.{Part, Row, parts, together, is_layer, is_pull_up, right_of, upon}
use Rattle.fabric_laws.proofs.Tables.{is_upright, is_level, is_upright_passes, is_level_passes}

-- the square at that place on the rectangle's layer
abbrev pub on_layer : Rect → Square → Square
on_layer q t = record { layer = q.layer; x = t.x; y = t.y }

-- neighbours of one column lie one upon the other, and those of one row side by side
in_column : (s t : Square) → s.x ≡ t.x → ShareEdge s t → (t.y ≡ s.y +ℤ pos 1) ⊎ (s.y ≡ t.y +ℤ pos 1)
in_column s t x (inl (e, inl g)) = absurd (omega (arith, ints))
in_column s t x (inl (e, inr g)) = absurd (omega (arith, ints))
in_column s t x (inr (e, g)) = g

in_row : (s t : Square) → s.y ≡ t.y → ShareEdge s t → (t.x ≡ s.x +ℤ pos 1) ⊎ (s.x ≡ t.x +ℤ pos 1)
in_row s t y (inl (e, g)) = g
in_row s t y (inr (e, inl g)) = absurd (omega (arith, ints))
in_row s t y (inr (e, inr g)) = absurd (omega (arith, ints))

-- a square beside one of a rectangle, in its column, and none of it: it lies below or above
pub below_or_above : (q : Rect) (s t : Square) → IsIn q s → s.x ≡ t.x → ShareEdge s t → ¬ IsIn q (on_layer q t)
    → IsBelowOrAbove q t
below_or_above q s t i x j out =
    let i0 = i.left in let i1 = i.right in let i2 = i.bottom in let i3 = i.top in
    let inside : q.y0 ≤ℤ t.y → t.y <ℤ q.y1 → ⊥ = λ k l. out (record {
      same = refl;
      left = omega (arith, ints);
      right = omega (arith, ints);
      bottom = k;
      top = l;
    }) in
    record {
      left = omega (arith, ints);
      right = omega (arith, ints);
      beside = elim (in_column s t x j) [
        | inl g ↦ by_lt_z t.y q.y1 (λ k. absurd (inside (omega (arith, ints)) k)) (λ k. inr (omega (arith, ints)))
        | inr g ↦ by_lt_z t.y q.y0 (λ k. inl (omega (arith, ints))) (λ k. absurd (inside k (omega (arith, ints))))
      ];
    }

-- in its row: it lies at the left or the right
pub left_or_right : (q : Rect) (s t : Square) → IsIn q s → s.y ≡ t.y → ShareEdge s t → ¬ IsIn q (on_layer q t)
    → IsLeftOrRight q t
left_or_right q s t i y j out =
    let i0 = i.left in let i1 = i.right in let i2 = i.bottom in let i3 = i.top in
    let inside : q.x0 ≤ℤ t.x → t.x <ℤ q.x1 → ⊥ = λ k l. out (record {
      same = refl;
      left = k;
      right = l;
      bottom = omega (arith, ints);
      top = omega (arith, ints);
    }) in
    record {
      bottom = omega (arith, ints);
      top = omega (arith, ints);
      beside = elim (in_row s t y j) [
        | inl g ↦ by_lt_z t.x q.x1 (λ k. absurd (inside (omega (arith, ints)) k)) (λ k. inr (omega (arith, ints)))
        | inr g ↦ by_lt_z t.x q.x0 (λ k. inl (omega (arith, ints))) (λ k. absurd (inside k (omega (arith, ints))))
      ];
    }

module _ (f : Plan) (w : IsFabric f) where
  -- what stands beside a channel stands together with its mark
  beside_mark : (m : Mark) (s t : Square) (o : OfMark f m s) → ShareEdge s t → (p : Owner f t.layer t.x t.y)
      → (q : Row) × (together q (mark m.tile) p.thing ≡ true)
  beside_mark m s t o j p =
      let tile = near_tile f w (near f w m s t o p.b p.r p.c p.u p.v p.at j) in
      let q = row_at f w p.b p.r p.v p.at.slot in
      let h : Here f p.b p.r p.c (mark m.tile) = move (λ b r c. Here f b r c (mark m.tile)) tile
      (here_mark f w m o.in_marks (has_channel m.tile o.cell o.among)) in
      (q.0, are_together f w (mark m.tile) p.thing p.b p.r p.c q.0 p.at.band q.1 h p.here)

  none_at_sides : (m : Mark) (s t : Square) (o : OfMark f m s) → m.tile ≡ PullUp → t.layer ≡ ND → ShareEdge s t
      → (p : Owner f t.layer t.x t.y)
      → (right_of o.cell p.part.cell || right_of p.part.cell o.cell) ≡ true → ⊥
  none_at_sides m s t o e d j p h =
      let q = beside_mark m s t o j p in
      let g : is_pull_up (mark m.tile) ≡ true = ap (λ z. is_pull_up (mark z)) e in
      let a = and_from _ _ q.1 (and_from _ _ g (and_from _ _ (layer_is ND p.part.cell (p.layer ∙ d)) h)) in
      let z = follows (together q.0 (mark m.tile) p.thing
      && (is_pull_up (mark m.tile)
      && (is_layer ND p.part.cell && (right_of o.cell p.part.cell || right_of p.part.cell o.cell)))) false
      (at_ends is_upright is_upright_passes q.0 (mark m.tile) o.cell p.thing p.part o.among p.among) a in
      cc (z)

  none_below_or_above : (m : Mark) (s t : Square) (o : OfMark f m s) → m.tile ≡ Tran → t.layer ≡ ND → ShareEdge s t
      → (p : Owner f t.layer t.x t.y)
      → (upon o.cell p.part.cell || upon p.part.cell o.cell) ≡ true → ⊥
  none_below_or_above m s t o e d j p h =
      let q = beside_mark m s t o j p in
      let g : not (is_pull_up (mark m.tile)) ≡ true = ap (λ z. not (is_pull_up (mark z))) e in
      let a = and_from _ _ q.1 (and_from _ _ g (and_from _ _ (layer_is ND p.part.cell (p.layer ∙ d)) h)) in
      let z = follows (together q.0 (mark m.tile) p.thing
      && (not (is_pull_up (mark m.tile))
      && (is_layer ND p.part.cell && (upon o.cell p.part.cell || upon p.part.cell o.cell)))) false
      (at_ends is_level is_level_passes q.0 (mark m.tile) o.cell p.thing p.part o.among p.among) a in
      cc (z)

  -- Diffusion beside a pull-up's channel lies below or above it,
  pub upright : (m : Mark) (s t : Square) → OfMark f m s → m.tile ≡ PullUp → t.layer ≡ ND → ShareEdge s t
      → Conducts (covered (shape f)) t → s.x ≡ t.x
  upright m s t o e d j h =
      let p = owner_of f w t.layer t.x t.y h in
      let a = o.at.at_x in let b = p.at.at_x in
      elim (near f w m s t o p.b p.r p.c p.u p.v p.at j) [
        | to_right_ k g i ↦ absurd (none_at_sides m s t o e d j p (or_left _ _ (is_right_of o.cell p.part.cell o.u o.v
            p.u p.v (omega arith) (omega arith) i o.inside p.inside)))
        | to_left_ k g i ↦ absurd (none_at_sides m s t o e d j p (or_right _ _ (is_right_of p.part.cell o.cell p.u p.v
            o.u o.v (omega arith) (omega arith) (sym i) p.inside o.inside)))
        | to_top_ k g i ↦ (let c = k.column in omega (arith, ints))
        | to_bottom_ k g i ↦ (let c = k.column in omega (arith, ints))
      ]

  -- and beside a transistor's at the left or the right of it.
  pub level : (m : Mark) (s t : Square) → OfMark f m s → m.tile ≡ Tran → t.layer ≡ ND → ShareEdge s t
      → Conducts (covered (shape f)) t → s.y ≡ t.y
  level m s t o e d j h =
      let p = owner_of f w t.layer t.x t.y h in
      elim (near f w m s t o p.b p.r p.c p.u p.v p.at j) [
        | to_right_ k g i ↦ same_height m s t o p.b p.r p.c p.u p.v p.at k i
        | to_left_ k g i ↦ same_height m s t o p.b p.r p.c p.u p.v p.at k i
        | to_top_ k g i ↦ absurd (none_below_or_above m s t o e d j p (or_left _ _ (is_upon o.cell p.part.cell o.u o.v
            p.u p.v g (omega arith) (omega arith) o.inside p.inside)))
        | to_bottom_ k g i ↦ absurd (none_below_or_above m s t o e d j p (or_right _ _ (is_upon p.part.cell o.cell p.u
            p.v o.u o.v (sym g) (omega arith) (omega arith) p.inside o.inside)))
      ]
    where
      same_height : (m : Mark) (s t : Square) (o : OfMark f m s) (b r c u v : ℕ) → At f b r c u v t.x t.y
          → SameTile m.band m.row m.column b r c → o.v ≡ v → s.y ≡ t.y
      same_height m s t o b r c u v a k i =
          o.at.at_y ∙ ap (λ z. pos (500 * base f m.band + 6000 * m.row + z)) i
          ∙ move (λ b r c. pos (500 * base f m.band + 6000 * m.row + v) ≡ pos (500 * base f b + 6000 * r + v)) k refl
          ∙ sym a.at_y

  -- the place of a square next to one of a channel
  next_at : (m : Mark) (s : Square) (o : OfMark f m s) (t : Square) (u v : ℕ) → u ≤ o.u + 1 → v ≤ o.v + 1
      → t.x ≡ pos (10000 * m.column + u) → t.y ≡ pos (500 * base f m.band + 6000 * m.row + v)
      → At f m.band m.row m.column u v t.x t.y
  next_at m s o t u v across up x y =
      let i = inner f w m s o in let i0 = i.right in
      record {
        band = o.at.band;
        slot = elim o.at.slot [
          | inl h ↦ elim i.top [
            | inl k ↦ inl (h.0, omega arith)
            | inr k ↦ (let h0 = h.0 in let k0 = k.0 in absurd (omega arith))
          ]
          | inr h ↦ inr (h.0, elim i.top [ inl k ↦ omega arith | inr k ↦ (let k1 = k.1 in omega arith) ])
        ];
        at_x = x;
        at_y = y;
        in_x = omega arith;
      }

  -- Diffusion of the mark that stands beside a square of its channel is an end of the channel.
  pub is_end : (m : Mark) (r s t : Square) (o : OfMark f m s) → IsOfChannel (covered (shape f)) r s → ShareEdge s t
      → t.layer ≡ ND → (p : Part) (u v : ℕ) → u ≤ o.u + 1 → v ≤ o.v + 1 → t.x ≡ pos (10000 * m.column + u)
      → t.y ≡ pos (500 * base f m.band + 6000 * m.row + v) → Member (parts (mark m.tile)) p → p.cell.layer ≡ ND
      → Inside p.cell u v → IsEnd (covered (shape f)) r t
  is_end m r s t o of j d p u v across up x y among e i = record {
    square = s;
    of = of;
    diffusion = d;
    conducts = owner_conducts f w t.layer t.x t.y (record {
      b = m.band;
      r = m.row;
      c = m.column;
      u = u;
      v = v;
      at = next_at m s o t u v across up x y;
      thing = mark m.tile;
      here = here_mark f w m o.in_marks (has_channel m.tile o.cell o.among);
      part = p;
      among = among;
      layer = e ∙ sym d;
      inside = i;
    });
    beside = j;
  }
