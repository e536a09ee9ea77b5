-- Tiles that lead from polysilicon to diffusion.
use Rattle.std.proofs.Common.{ℕ, ◌≡◌, ◌+◌, ◌<◌, inl, inr, refl, sym, ◌∙◌, subst, arith, List}
use Rattle.std.proofs.Common.{Bool, true, false, true≢false, not, ◌&&◌}
use Rattle.std.specs.Prelude.{ℤ, pos, negsuc, neg_ℤ, ◌+ℤ◌, ◌-ℤ◌, ◌<ℤ◌, ◌≤ℤ◌, Contains, if◌then◌else◌}
use Rattle.std.proofs.lemmas.Bool.{cases_eq, false_from_ne_true, both_ways}
use Rattle.std.proofs.lemmas.Int.{ints, by_lt_z}
use Rattle.std.proofs.lemmas.List.Elements.{All-contains}
use Rattle.lam_geom.specs.declared.layer.Layer.TheVariants.{ND, NP, NB, NI}
use Rattle.lam_geom.specs.declared.rect.Rect.{Rect}
use Rattle.lam_geom.specs.Squares.{covered}
use Rattle.lam_geom.specs.Rules as rules
use Rattle.lam_geom.specs.Rules.Way.{right, left}
use Rattle.mask_runs.specs.declared.mask.Mask.TheVariants.{Diffusion}
use Rattle.mask_runs.specs.Colours.{HasColour}
use Rattle.mask_tiles.specs.declared.tile.Tile.{Tile}
use Rattle.mask_tiles.specs.Tiles.{IsTile, InTile, AreTiles, AreWhole}
use Rattle.mask_tiles.specs.Touching.{Touch}
use Rattle.mask_tiles.proofs.Longest.{longest_once}
use Rattle.mask_tiles.proofs.SeenLayers.{layers_of}
use Rattle.rule_rows.specs.Nears.{drawn, IsInField, IsPlan, IsNearInRow, LeadsRight, LeadsLeft, Leads}
use Rattle.rule_rows.proofs.Spreading.{natural}

abbrev shade : Bool → Bool → Bool → Bool → ℕ
shade nd np nb ni = if nd && np && not nb then (if ni then 3 else 2) else if nd then 1 else 0

-- the colours of squares in the field
shade_one : (nd np nb ni : Bool) → np ≡ true → shade nd np nb ni ≡ 1 → nb ≡ true
shade_one true true true ni p e = refl
shade_one true true false true p e = absurd (omega arith)
shade_one true true false false p e = absurd (omega arith)
shade_one true false nb ni p e = absurd (true≢false (sym p))
shade_one false np nb ni p e = absurd (omega arith)

shade_two : (nd np nb ni : Bool) → shade nd np nb ni ≡ 2 → (nb ≡ false) × (ni ≡ false)
shade_two true true true ni e = absurd (omega arith)
shade_two true true false true e = absurd (omega arith)
shade_two true true false false e = (refl, refl)
shade_two true false nb ni e = absurd (omega arith)
shade_two false np nb ni e = absurd (omega arith)

shade_three : (nd np nb ni : Bool) → shade nd np nb ni ≡ 3 → (nb ≡ false) × (ni ≡ true)
shade_three true true true ni e = absurd (omega arith)
shade_three true true false true e = (refl, refl)
shade_three true true false false e = absurd (omega arith)
shade_three true false nb ni e = absurd (omega arith)
shade_three false np nb ni e = absurd (omega arith)

one_shade : (nd np nb ni : Bool) → nd ≡ true → np ≡ true → nb ≡ true → shade nd np nb ni ≡ 1
one_shade nd np nb ni d p b = rw (d, p, b) refl

two_shade : (nd np nb ni : Bool) → nd ≡ true → np ≡ true → nb ≡ false → ni ≡ false → shade nd np nb ni ≡ 2
two_shade nd np nb ni d p b i = rw (d, p, b, i) refl

three_shade : (nd np nb ni : Bool) → nd ≡ true → np ≡ true → nb ≡ false → ni ≡ true → shade nd np nb ni ≡ 3
three_shade nd np nb ni d p b i = rw (d, p, b, i) refl

module _ (plan : List Rect) (is : IsPlan plan) where
  poly_colour : (x y : ℤ) → IsInField x y → HasColour plan Diffusion 1 x y → covered plan NB x y
  poly_colour x y f h =
      let s = h.layers in
      (h.sees.each NB).0 (shade_one s.nd s.np s.nb s.ni ((h.sees.each NP).1 ((is.polysilicon x y).1 f)) h.same)

  gap_colour : (x y : ℤ) → HasColour plan Diffusion 2 x y → (¬ covered plan NB x y) × ¬ covered plan NI x y
  gap_colour x y h =
      let s = h.layers in
      let e = shade_two s.nd s.np s.nb s.ni h.same in
      (λ c. both_ways s.nb e.0 ((h.sees.each NB).1 c), λ c. both_ways s.ni e.1 ((h.sees.each NI).1 c))

  diffusion_colour : (x y : ℤ) → HasColour plan Diffusion 3 x y → (¬ covered plan NB x y) × covered plan NI x y
  diffusion_colour x y h =
      let s = h.layers in
      let e = shade_three s.nd s.np s.nb s.ni h.same in
      (λ c. both_ways s.nb e.0 ((h.sees.each NB).1 c), (h.sees.each NI).0 e.1)

  colour_poly : (x y : ℤ) → IsInField x y → covered plan NB x y → HasColour plan Diffusion 1 x y
  colour_poly x y f c =
      let (s, sees) = layers_of plan x y in
      record {
        layers = s;
        sees = sees;
        same = one_shade s.nd s.np s.nb s.ni ((sees.each ND).1 ((is.diffusion x y).1 f))
            ((sees.each NP).1 ((is.polysilicon x y).1 f)) ((sees.each NB).1 c);
      }

  colour_gap : (x y : ℤ) → IsInField x y → (¬ covered plan NB x y) → (¬ covered plan NI x y)
      → HasColour plan Diffusion 2 x y
  colour_gap x y f c d =
      let (s, sees) = layers_of plan x y in
      record {
        layers = s;
        sees = sees;
        same = two_shade s.nd s.np s.nb s.ni ((sees.each ND).1 ((is.diffusion x y).1 f))
            ((sees.each NP).1 ((is.polysilicon x y).1 f)) (false_from_ne_true s.nb (λ e. c ((sees.each NB).0 e)))
            (false_from_ne_true s.ni (λ e. d ((sees.each NI).0 e)));
      }

  colour_diffusion : (x y : ℤ) → IsInField x y → (¬ covered plan NB x y) → covered plan NI x y
      → HasColour plan Diffusion 3 x y
  colour_diffusion x y f c d =
      let (s, sees) = layers_of plan x y in
      record {
        layers = s;
        sees = sees;
        same = three_shade s.nd s.np s.nb s.ni ((sees.each ND).1 ((is.diffusion x y).1 f))
            ((sees.each NP).1 ((is.polysilicon x y).1 f)) (false_from_ne_true s.nb (λ e. c ((sees.each NB).0 e)))
            ((sees.each NI).1 d);
      }

  -- near polysilicon the field goes on
  in_field : (x y z : ℤ) → covered plan NB x y → (x -ℤ pos 600) ≤ℤ z → z ≤ℤ (x +ℤ pos 600) → IsInField z y
  in_field x y z c l m =
      let n = is.near x y c in
      let a = n.0.0 in
      let b = n.0.1 in
      let d = n.1.0 in
      let e = n.1.1 in
      record {
        left = omega (arith, ints);
        right = omega (arith, ints);
        bottom = omega (arith, ints);
        top = omega (arith, ints);
      }

  coloured : (t : Tile) (k : ℕ) (x y : ℤ) → IsTile plan Diffusion t → t.colour ≡ k → InTile t x y
      → HasColour plan Diffusion k x y
  coloured t k x y h e i =
      subst (λ k. HasColour plan Diffusion k x y) e ((h.stack.each y i.bottom i.top).each x i.left i.right)

  -- ---- what leads is near

  module _ (from to : Tile) (f : IsTile plan Diffusion from) (t : IsTile plan Diffusion to) (x y : ℤ)
      (h : Leads from to x y) where
    ends : (z : ℤ) → to.x0 ≤ℤ z → z <ℤ to.x1 → (¬ covered plan NB z y) × covered plan NI z y
    ends z l m = diffusion_colour z y (coloured to 3 z y t h.diffusion (record {
      left = l;
      right = m;
      bottom = h.to_bottom;
      top = h.to_top;
    }))

    open_ : from.colour ≡ 2 → (z : ℤ) → from.x0 ≤ℤ z → z <ℤ from.x1 → (¬ covered plan NB z y) × ¬ covered plan NI z y
    open_ e z l m = gap_colour z y (coloured from 2 z y f e (record {
      left = l;
      right = m;
      bottom = h.from_bottom;
      top = h.from_top;
    }))

    to_wide : to.x0 <ℤ to.x1
    to_wide = (t.stack.each y h.to_bottom h.to_top).some

    from_wide : from.x0 <ℤ from.x1
    from_wide = (f.stack.each y h.from_bottom h.from_top).some

    near_right : LeadsRight from to x → rules.IsNear (drawn plan) right x y
    near_right r = let meet = r.meet in let w = to_wide in let v = from_wide in elim r.start [
      | inl s ↦ (
          let e = s.1 in
          let d = ends (x +ℤ pos (0 + 1)) (omega (arith, ints)) (omega (arith, ints)) in
          record {
            between = 0;
            few = omega arith;
            clear = λ k a b. absurd (omega arith);
            diffusion = d.1;
            bare = d.0;
          })
      | inr s ↦ (
          let e = s.1 in
          let narrow = s.2 in
          let m = natural (from.x1 -ℤ from.x0) (omega (arith, ints)) in
          let n = m.0 in
          let g = m.1 in
          let d = ends (x +ℤ pos (n + 1)) (omega (arith, ints)) (omega (arith, ints)) in
          record {
            between = n;
            few = omega (arith, ints);
            clear = λ k a b. open_ s.0 (x +ℤ pos k) (omega (arith, ints)) (omega (arith, ints));
            diffusion = d.1;
            bare = d.0;
          })
    ]

    near_left : LeadsLeft from to x → rules.IsNear (drawn plan) left x y
    near_left r = let meet = r.meet in let w = to_wide in let v = from_wide in elim r.start [
      | inl s ↦ (
          let e = s.1 in
          let d = ends (x +ℤ neg_ℤ (pos (0 + 1))) (omega (arith, ints)) (omega (arith, ints)) in
          record {
            between = 0;
            few = omega arith;
            clear = λ k a b. absurd (omega arith);
            diffusion = d.1;
            bare = d.0;
          })
      | inr s ↦ (
          let e = s.1 in
          let narrow = s.2 in
          let m = natural (from.x1 -ℤ from.x0) (omega (arith, ints)) in
          let n = m.0 in
          let g = m.1 in
          let d = ends (x +ℤ neg_ℤ (pos (n + 1))) (omega (arith, ints)) (omega (arith, ints)) in
          record {
            between = n;
            few = omega (arith, ints);
            clear = λ k a b. open_ s.0 (x +ℤ neg_ℤ (pos k)) (omega (arith, ints)) (omega (arith, ints));
            diffusion = d.1;
            bare = d.0;
          })
    ]

    pub near_of_lead : IsNearInRow plan x y
    near_of_lead = elim h.way [ inl r ↦ inl (near_right r) | inr l ↦ inr (near_left l) ]

  -- ---- what is near is led to

  module _ (tiles : List Tile) (are : AreTiles plan Diffusion tiles) (whole : AreWhole plan Diffusion tiles) where
    pub record IsLed (x y : ℤ) : Type 0 where
      pub from : Tile
      pub to : Tile
      pub from_in : Contains tiles from
      pub to_in : Contains tiles to
      pub touch : Touch from to
      pub leads : Leads from to x y

    is_tile : (t : Tile) → Contains tiles t → IsTile plan Diffusion t
    is_tile t c = All-contains (IsTile plan Diffusion) tiles t are.each c

    -- the tile of a square of this colour
    tile_of : (k : ℕ) (x y : ℤ) → 0 < k → HasColour plan Diffusion k x y
        → (t : Tile) × Contains tiles t × (t.colour ≡ k) × InTile t x y × IsTile plan Diffusion t
    tile_of k x y some h = let g = whole.tile k x y some h in (g.0, g.1, g.2, g.3, is_tile g.0 g.1)

    at_row : (t : Tile) (x y z : ℤ) → InTile t x y → t.x0 ≤ℤ z → z <ℤ t.x1 → InTile t z y
    at_row t x y z i l r = record { left = l; right = r; bottom = i.bottom; top = i.top }

    -- where the tile of diffusion begins and ends, beside what has none alone
    to_starts : (t : Tile) (x y : ℤ) → IsTile plan Diffusion t → t.colour ≡ 3 → InTile t x y
        → ((¬ covered plan NB (x -ℤ pos 1) y) × covered plan NI (x -ℤ pos 1) y → ⊥) → t.x0 ≡ x
    to_starts t x y is e i none = by_lt_z t.x0 x
        (λ l. let r = i.right in absurd (none (diffusion_colour (x -ℤ pos 1) y (coloured t 3 (x -ℤ pos 1) y is e
        (at_row t x y (x -ℤ pos 1) i (omega (arith, ints)) (omega (arith, ints)))))))
        (λ l. let k = i.left in omega (arith, ints))

    to_ends : (t : Tile) (x y : ℤ) → IsTile plan Diffusion t → t.colour ≡ 3 → InTile t x y
        → ((¬ covered plan NB (x +ℤ pos 1) y) × covered plan NI (x +ℤ pos 1) y → ⊥) → t.x1 ≡ x +ℤ pos 1
    to_ends t x y is e i none = by_lt_z (x +ℤ pos 1) t.x1
        (λ l. let r = i.left in absurd (none (diffusion_colour (x +ℤ pos 1) y (coloured t 3 (x +ℤ pos 1) y is e
        (at_row t x y (x +ℤ pos 1) i (omega (arith, ints)) l)))))
        (λ l. let k = i.right in omega (arith, ints))

    -- and the tile of polysilicon beside diffusion alone
    from_ends : (t : Tile) (x y : ℤ) → IsTile plan Diffusion t → t.colour ≡ 1 → InTile t x y
        → IsInField (x +ℤ pos 1) y → (¬ covered plan NB (x +ℤ pos 1) y) → t.x1 ≡ x +ℤ pos 1
    from_ends t x y is e i f none = by_lt_z (x +ℤ pos 1) t.x1
        (λ l. let r = i.left in absurd (none (poly_colour (x +ℤ pos 1) y f (coloured t 1 (x +ℤ pos 1) y is e
        (at_row t x y (x +ℤ pos 1) i (omega (arith, ints)) l)))))
        (λ l. let k = i.right in omega (arith, ints))

    from_starts : (t : Tile) (x y : ℤ) → IsTile plan Diffusion t → t.colour ≡ 1 → InTile t x y
        → IsInField (x -ℤ pos 1) y → (¬ covered plan NB (x -ℤ pos 1) y) → t.x0 ≡ x
    from_starts t x y is e i f none = by_lt_z t.x0 x
        (λ l. let r = i.right in absurd (none (poly_colour (x -ℤ pos 1) y f (coloured t 1 (x -ℤ pos 1) y is e
        (at_row t x y (x -ℤ pos 1) i (omega (arith, ints)) (omega (arith, ints)))))))
        (λ l. let k = i.left in omega (arith, ints))

    -- a gap between squares that have something is a tile's row
    gap_row : (t : Tile) (a b x y : ℤ) → IsTile plan Diffusion t → t.colour ≡ 2 → InTile t x y → a <ℤ x → x <ℤ b
        → ((z : ℤ) → a <ℤ z → z <ℤ b → HasColour plan Diffusion 2 z y)
        → (¬ HasColour plan Diffusion 2 a y) → (¬ HasColour plan Diffusion 2 b y)
        → (t.x0 ≡ a +ℤ pos 1) × (t.x1 ≡ b)
    gap_row t a b x y is e i l m each na nb =
        let row = is.stack.each y i.bottom i.top in
        let same = λ (z : ℤ) (h : HasColour plan Diffusion 2 z y).
        subst (λ k. HasColour plan Diffusion k z y) (sym e) h in
        longest_once (λ z. HasColour plan Diffusion t.colour z y) t.x0 t.x1 (a +ℤ pos 1) b x row (record {
          some = omega (arith, ints);
          each = λ z p q. same z (each z (omega (arith, ints)) q);
          before = λ h. na (subst (λ k. HasColour plan Diffusion k a y) e
              (subst (λ z. HasColour plan Diffusion t.colour z y) (back a) h));
          after = λ h. nb (subst (λ k. HasColour plan Diffusion k b y) e h);
        }) i.left i.right (omega (arith, ints)) m
      where
        back : (a : ℤ) → (a +ℤ pos 1) +ℤ negsuc 0 ≡ a
        back a = omega (arith, ints)

    module _ (x y : ℤ) (here : covered plan NB x y) where
      abbrev Found : ℕ → ℤ → ℤ → Type 0
      Found k u v = (t : Tile) × Contains tiles t × (t.colour ≡ k) × InTile t u v × IsTile plan Diffusion t

      own : IsInField x y
      own = in_field x y x here (omega (arith, ints)) (omega (arith, ints))

      not_gap : ¬ HasColour plan Diffusion 2 x y
      not_gap h = (gap_colour x y h).0 here

      beside_right : (p : Found 1 x y) (q : Found 3 (x +ℤ pos 1) y) → p.0.x1 ≡ x +ℤ pos 1 → q.0.x0 ≡ x +ℤ pos 1
          → IsLed x y
      beside_right (from, p, e, i, f) (to, q, g, j, t) l r = record {
        from = from;
        to = to;
        from_in = p;
        to_in = q;
        touch = record {
          x = x;
          y = y;
          u = x +ℤ pos 1;
          v = y;
          in_first = i;
          in_second = j;
          beside = inl (refl, inl refl);
        };
        leads = record {
          diffusion = g;
          from_bottom = i.bottom;
          from_top = i.top;
          to_bottom = j.bottom;
          to_top = j.top;
          way = inl (record { meet = l ∙ sym r; start = inl (e, sym l) });
        };
      }

      over_right : (b : ℤ) (p : Found 2 (x +ℤ pos 1) y) (q : Found 3 b y) → (x +ℤ pos 1) <ℤ b
          → b <ℤ (x +ℤ pos 501) → (p.0.x0 ≡ x +ℤ pos 1) × (p.0.x1 ≡ b) → q.0.x0 ≡ b → IsLed x y
      over_right b (from, p, e, i, f) (to, q, g, j, t) some few (l, m) r = record {
        from = from;
        to = to;
        from_in = p;
        to_in = q;
        touch = record {
          x = b -ℤ pos 1;
          y = y;
          u = b;
          v = y;
          in_first = at_row from (x +ℤ pos 1) y (b -ℤ pos 1) i (omega (arith, ints)) (omega (arith, ints));
          in_second = j;
          beside = inl (refl, inl (omega (arith, ints)));
        };
        leads = record {
          diffusion = g;
          from_bottom = i.bottom;
          from_top = i.top;
          to_bottom = j.bottom;
          to_top = j.top;
          way = inl (record { meet = m ∙ sym r; start = inr (e, sym l, omega (arith, ints)) });
        };
      }

      module _ (n : rules.IsNear (drawn plan) right x y) where
        gap_right : (b z : ℤ) → b ≡ x +ℤ pos (n.between + 1) → x <ℤ z → z <ℤ b → HasColour plan Diffusion 2 z y
        gap_right b z is l m =
            let w = natural (z -ℤ x) (omega (arith, ints)) in
            let e = w.1 in
            let few = n.few in
            let at : x +ℤ pos w.0 ≡ z = omega (arith, ints) in
            let c = n.clear w.0 (omega (arith, ints)) (omega (arith, ints)) in
            colour_gap z y (in_field x y z here (omega (arith, ints)) (omega (arith, ints)))
            (λ h. c.0 (subst (λ u. covered plan NB u y) (sym at) h))
            (λ h. c.1 (subst (λ u. covered plan NI u y) (sym at) h))

        led_over : (b : ℤ) → b ≡ x +ℤ pos (n.between + 1) → (x +ℤ pos 1) <ℤ b → IsLed x y
        led_over b is some =
            let few = n.few in
            let d = subst (λ u. covered plan NI u y) (sym is) n.diffusion in
            let bare = subst (λ u. ¬ covered plan NB u y) (sym is) n.bare in
            let each = λ (z : ℤ) (l : x <ℤ z) (m : z <ℤ b). gap_right b z is l m in
            let p = tile_of 2 (x +ℤ pos 1) y (omega arith) (each (x +ℤ pos 1) (omega (arith, ints)) some) in
            let q = tile_of 3 b y (omega arith) (colour_diffusion b y
            (in_field x y b here (omega (arith, ints)) (omega (arith, ints))) bare d) in
            over_right b p q some (omega (arith, ints))
            (gap_row p.0 x b (x +ℤ pos 1) y p.4 p.2 p.3 (omega (arith, ints)) some each not_gap
            (λ h. (gap_colour b y h).1 d))
            (to_starts q.0 b y q.4 q.2 q.3
            (λ h. (gap_colour (b -ℤ pos 1) y (each (b -ℤ pos 1) (omega (arith, ints)) (omega (arith, ints)))).1 h.1))

        led_next : n.between ≡ 0 → IsLed x y
        led_next e =
            let inside = in_field x y (x +ℤ pos 1) here (omega (arith, ints)) (omega (arith, ints)) in
            let d = subst (λ k. covered plan NI (x +ℤ pos (k + 1)) y) e n.diffusion in
            let bare = subst (λ k. ¬ covered plan NB (x +ℤ pos (k + 1)) y) e n.bare in
            let p = tile_of 1 x y (omega arith) (colour_poly x y own here) in
            let q = tile_of 3 (x +ℤ pos 1) y (omega arith) (colour_diffusion (x +ℤ pos 1) y inside bare d) in
            beside_right p q (from_ends p.0 x y p.4 p.2 p.3 inside bare)
            (to_starts q.0 (x +ℤ pos 1) y q.4 q.2 q.3 (λ h. h.0 (back here)))
          where
            back : covered plan NB x y → covered plan NB ((x +ℤ pos 1) -ℤ pos 1) y
            back h = let e : x ≡ (x +ℤ pos 1) -ℤ pos 1 = omega (arith, ints) in subst (λ u. covered plan NB u y) e h

        pub led_right : IsLed x y
        led_right = elim (cases_eq n.between 0) [
          | inl e ↦ led_next e
          | inr other ↦ led_over (x +ℤ pos (n.between + 1)) refl (omega (arith, ints))
        ]

      beside_left : (p : Found 1 x y) (q : Found 3 (x -ℤ pos 1) y) → p.0.x0 ≡ x → q.0.x1 ≡ x → IsLed x y
      beside_left (from, p, e, i, f) (to, q, g, j, t) l r = record {
        from = from;
        to = to;
        from_in = p;
        to_in = q;
        touch = record {
          x = x;
          y = y;
          u = x -ℤ pos 1;
          v = y;
          in_first = i;
          in_second = j;
          beside = inl (refl, inr (omega (arith, ints)));
        };
        leads = record {
          diffusion = g;
          from_bottom = i.bottom;
          from_top = i.top;
          to_bottom = j.bottom;
          to_top = j.top;
          way = inr (record { meet = r ∙ sym l; start = inl (e, sym l) });
        };
      }

      over_left : (b : ℤ) (p : Found 2 (x -ℤ pos 1) y) (q : Found 3 b y) → b <ℤ (x -ℤ pos 1)
          → (x -ℤ pos 501) <ℤ b → (p.0.x0 ≡ b +ℤ pos 1) × (p.0.x1 ≡ x) → q.0.x1 ≡ b +ℤ pos 1 → IsLed x y
      over_left b (from, p, e, i, f) (to, q, g, j, t) some few (l, m) r = record {
        from = from;
        to = to;
        from_in = p;
        to_in = q;
        touch = record {
          x = b +ℤ pos 1;
          y = y;
          u = b;
          v = y;
          in_first = at_row from (x -ℤ pos 1) y (b +ℤ pos 1) i (omega (arith, ints)) (omega (arith, ints));
          in_second = j;
          beside = inl (refl, inr refl);
        };
        leads = record {
          diffusion = g;
          from_bottom = i.bottom;
          from_top = i.top;
          to_bottom = j.bottom;
          to_top = j.top;
          way = inr (record { meet = r ∙ sym l; start = inr (e, sym m, omega (arith, ints)) });
        };
      }

      module _ (n : rules.IsNear (drawn plan) left x y) where
        gap_left : (b z : ℤ) → b ≡ x +ℤ neg_ℤ (pos (n.between + 1)) → b <ℤ z → z <ℤ x → HasColour plan Diffusion 2 z y
        gap_left b z is l m =
            let w = natural (x -ℤ z) (omega (arith, ints)) in
            let e = w.1 in
            let few = n.few in
            let at : x +ℤ neg_ℤ (pos w.0) ≡ z = omega (arith, ints) in
            let c = n.clear w.0 (omega (arith, ints)) (omega (arith, ints)) in
            colour_gap z y (in_field x y z here (omega (arith, ints)) (omega (arith, ints)))
            (λ h. c.0 (subst (λ u. covered plan NB u y) (sym at) h))
            (λ h. c.1 (subst (λ u. covered plan NI u y) (sym at) h))

        left_over : (b : ℤ) → b ≡ x +ℤ neg_ℤ (pos (n.between + 1)) → b <ℤ (x -ℤ pos 1) → IsLed x y
        left_over b is some =
            let few = n.few in
            let d = subst (λ u. covered plan NI u y) (sym is) n.diffusion in
            let bare = subst (λ u. ¬ covered plan NB u y) (sym is) n.bare in
            let each = λ (z : ℤ) (l : b <ℤ z) (m : z <ℤ x). gap_left b z is l m in
            let p = tile_of 2 (x -ℤ pos 1) y (omega arith) (each (x -ℤ pos 1) some (omega (arith, ints))) in
            let q = tile_of 3 b y (omega arith) (colour_diffusion b y
            (in_field x y b here (omega (arith, ints)) (omega (arith, ints))) bare d) in
            over_left b p q some (omega (arith, ints))
            (gap_row p.0 b x (x -ℤ pos 1) y p.4 p.2 p.3 some (omega (arith, ints)) each
            (λ h. (gap_colour b y h).1 d) not_gap)
            (to_ends q.0 b y q.4 q.2 q.3
            (λ h. (gap_colour (b +ℤ pos 1) y (each (b +ℤ pos 1) (omega (arith, ints)) (omega (arith, ints)))).1 h.1))

        left_next : (b : ℤ) → b ≡ x -ℤ pos 1 → b ≡ x +ℤ neg_ℤ (pos (n.between + 1)) → IsLed x y
        left_next b e is =
            let inside = in_field x y (x -ℤ pos 1) here (omega (arith, ints)) (omega (arith, ints)) in
            let at : x +ℤ neg_ℤ (pos (n.between + 1)) ≡ x -ℤ pos 1 = sym is ∙ e in
            let d = subst (λ u. covered plan NI u y) at n.diffusion in
            let bare = subst (λ u. ¬ covered plan NB u y) at n.bare in
            let p = tile_of 1 x y (omega arith) (colour_poly x y own here) in
            let q = tile_of 3 (x -ℤ pos 1) y (omega arith) (colour_diffusion (x -ℤ pos 1) y inside bare d) in
            beside_left p q (from_starts p.0 x y p.4 p.2 p.3 inside bare)
            (to_ends q.0 (x -ℤ pos 1) y q.4 q.2 q.3 (λ h. h.0 (subst (λ u. covered plan NB u y) there here))
            ∙ sym there)
          where
            there : x ≡ (x -ℤ pos 1) +ℤ pos 1
            there = omega (arith, ints)

        pub led_left : IsLed x y
        led_left = elim (cases_eq n.between 0) [
          | inl e ↦ left_next (x -ℤ pos 1) refl (omega (arith, ints))
          | inr other ↦ left_over (x +ℤ neg_ℤ (pos (n.between + 1))) refl (omega (arith, ints))
        ]

      pub led_of_near : IsNearInRow plan x y → IsLed x y
      led_of_near (inl n) = led_right n
      led_of_near (inr n) = led_left n
