-- Gates whose neighbours are closed.
use Rattle.std.proofs.Common.{ℕ, ◌≡◌, ◌≤◌, inl, inr, refl, sym, ◌∙◌, ap, subst, arith, List}
use Rattle.std.specs.Prelude.{Contains, ℤ, pos, ◌+ℤ◌, ◌≤ℤ◌, ◌<ℤ◌, Some, slice_get}
use Rattle.std.proofs.lemmas.Bool.{cases_order}
use Rattle.std.proofs.lemmas.Int.{ints, by_lt_z}
use Rattle.std.proofs.lemmas.List.Elements.{All-contains}
use Rattle.std.proofs.lemmas.Option.{get_or_from_slice_get}
use Rattle.mp_base.proofs.Entries.{get_from_contains}
use Rattle.lam_geom.specs.declared.rect.Rect.{Rect}
use Rattle.lam_geom.specs.Rules.{IsBad, IsOpenGate, Way, nothing, short, to_x, to_y}
use Rattle.lam_geom.specs.Rules.Way.{right, left, up, down}
use Rattle.lam_geom.specs.Squares.{covered}
use Rattle.mask_runs.specs.declared.mask.Mask.TheVariants.{Diffusion}
use Rattle.mask_runs.specs.Colours.{HasColour}
use Rattle.mask_tiles.specs.declared.tile.Tile.{Tile}
use Rattle.mask_tiles.specs.Tiles.{AreTiles, AreWhole, InTile, IsTile}
use Rattle.mask_tiles.specs.Touching.{AreTouching, Beside, TouchAt}
use Rattle.union_find.specs.declared.pair.Pair.{Pair}
use Rattle.rule_rows.specs.Closed.{AreBordered, FitsLeg, HaveLongLegs, IsLongAcross, IsLongUp, IsSwapped, PairFits, tile}
use Rattle.rule_rows.proofs.Leading.{turned_round}
use Rattle.rule_rows.proofs.Stretching.{no_tile}
use Rattle.rule_rows.proofs.Swapping.{alone_colour, alone_of, gate_colour, gate_of}

beside_of : (w : Way) (x y : ℤ) → Beside x y (to_x w x 1) (to_y w y 1)
beside_of right x y = inl (refl, inl refl)
beside_of left x y = inl (refl, inr (omega (arith, ints)))
beside_of up x y = inr (refl, inl refl)
beside_of down x y = inr (refl, inr (omega (arith, ints)))

module _ (g t : Tile) (x y : ℤ) (in_g : InTile g x y) (off : ¬ InTile t x y) (across : IsLongAcross g t)
    (up_ : IsLongUp g t) (k : ℕ) (some : 1 ≤ k) (few : k ≤ 1000) where
  -- a long leg that touches the square has those as far as two lambda
  far_in : (w : Way) → InTile t (to_x w x 1) (to_y w y 1) → (¬ InTile g (to_x w x 1) (to_y w y 1))
      → InTile t (to_x w x k) (to_y w y k)
  far_in right i not_g =
      let a = i.left in let b = i.right in let c = in_g.left in
      let begin : x <ℤ t.x0 = by_lt_z x t.x0 (λ h. h) (λ h. absurd (off (record {
        left = h;
        right = omega (arith, ints);
        bottom = i.bottom;
        top = i.top;
      }))) in
      let end : g.x1 ≤ℤ (x +ℤ pos 1) = by_lt_z (x +ℤ pos 1) g.x1 (λ h. absurd (not_g (record {
        left = omega (arith, ints);
        right = h;
        bottom = in_g.bottom;
        top = in_g.top;
      }))) (λ h. h) in
      elim across [
        | inl o ↦ absurd (let m = o.0 in omega (arith, ints))
        | inr l ↦ record {
          left = omega (arith, ints);
          right = omega (arith, ints);
          bottom = i.bottom;
          top = i.top;
        }
      ]
  far_in left i not_g =
      let a = i.left in let b = i.right in let c = in_g.right in
      let begin : t.x1 ≤ℤ x = by_lt_z x t.x1 (λ h. absurd (off (record {
        left = omega (arith, ints);
        right = h;
        bottom = i.bottom;
        top = i.top;
      }))) (λ h. h) in
      let end : x ≤ℤ g.x0 = by_lt_z g.x0 x (λ h. absurd (not_g (record {
        left = omega (arith, ints);
        right = omega (arith, ints);
        bottom = in_g.bottom;
        top = in_g.top;
      }))) (λ h. h) in
      elim across [
        | inl o ↦ absurd (let m = o.1 in omega (arith, ints))
        | inr l ↦ record {
          left = omega (arith, ints);
          right = omega (arith, ints);
          bottom = i.bottom;
          top = i.top;
        }
      ]
  far_in up i not_g =
      let a = i.bottom in let b = i.top in let c = in_g.bottom in
      let begin : y <ℤ t.y0 = by_lt_z y t.y0 (λ h. h) (λ h. absurd (off (record {
        left = i.left;
        right = i.right;
        bottom = h;
        top = omega (arith, ints);
      }))) in
      let end : g.y1 ≤ℤ (y +ℤ pos 1) = by_lt_z (y +ℤ pos 1) g.y1 (λ h. absurd (not_g (record {
        left = in_g.left;
        right = in_g.right;
        bottom = omega (arith, ints);
        top = h;
      }))) (λ h. h) in
      elim up_ [
        | inl o ↦ absurd (let m = o.0 in omega (arith, ints))
        | inr l ↦ record {
          left = i.left;
          right = i.right;
          bottom = omega (arith, ints);
          top = omega (arith, ints);
        }
      ]
  far_in down i not_g =
      let a = i.bottom in let b = i.top in let c = in_g.top in
      let begin : t.y1 ≤ℤ y = by_lt_z y t.y1 (λ h. absurd (off (record {
        left = i.left;
        right = i.right;
        bottom = omega (arith, ints);
        top = h;
      }))) (λ h. h) in
      let end : y ≤ℤ g.y0 = by_lt_z g.y0 y (λ h. absurd (not_g (record {
        left = in_g.left;
        right = in_g.right;
        bottom = omega (arith, ints);
        top = omega (arith, ints);
      }))) (λ h. h) in
      elim up_ [
        | inl o ↦ absurd (let m = o.1 in omega (arith, ints))
        | inr l ↦ record {
          left = i.left;
          right = i.right;
          bottom = omega (arith, ints);
          top = omega (arith, ints);
        }
      ]

module _ (tiles : List Tile) (pairs : List Pair) (touching : AreTouching tiles pairs)
    (long : HaveLongLegs tiles pairs) where
  fits_at : (i j : ℕ) (a b : Tile) → slice_get tiles i ≡ Some a → slice_get tiles j ≡ Some b → TouchAt tiles i j
      → FitsLeg a b × FitsLeg b a
  fits_at i j a b e f t =
      let both = All-contains (PairFits tiles) pairs (record { a = i; b = j }) long
      (touching.all (record { a = i; b = j }) t) in
      let g : tile tiles i ≡ a = get_or_from_slice_get tiles i a no_tile e in
      let h : tile tiles j ≡ b = get_or_from_slice_get tiles j b no_tile f in
      subst (λ s. FitsLeg s b × FitsLeg b s) g
      (subst (λ s. FitsLeg (tile tiles i) s × FitsLeg s (tile tiles i)) h both)

  -- touching tiles of channels and of polysilicon alone fit
  fitting : (a b : Tile) → Contains tiles a → Contains tiles b → a.colour ≡ 2 → b.colour ≡ 1 → (x y u v : ℤ)
      → InTile a x y → InTile b u v → Beside x y u v → IsLongAcross a b × IsLongUp a b
  fitting a b in_a in_b two one x y u v i j s =
      let f = get_from_contains tiles a in_a in
      let g = get_from_contains tiles b in_b in
      elim (cases_order f.0 g.0) [
        | inl same ↦ absurd (
            let e : a ≡ b = sym (get_or_from_slice_get tiles f.0 a no_tile f.1)
            ∙ ap (λ k. tile tiles k) same ∙ get_or_from_slice_get tiles g.0 b no_tile g.1 in
            let c : a.colour ≡ b.colour = ap (λ t. t.colour) e in
            omega arith)
        | inr (inl l) ↦ (fits_at f.0 g.0 a b f.1 g.1 (record {
          order = l;
          first = a;
          second = b;
          at_first = f.1;
          at_second = g.1;
          touch = record { x = x; y = y; u = u; v = v; in_first = i; in_second = j; beside = s };
        })).0 two one
        | inr (inr l) ↦ (fits_at g.0 f.0 b a g.1 f.1 (record {
          order = l;
          first = b;
          second = a;
          at_first = g.1;
          at_second = f.1;
          touch = record {
            x = u;
            y = v;
            u = x;
            v = y;
            in_first = j;
            in_second = i;
            beside = turned_round x y u v s;
          };
        })).1 two one
      ]

module _ (shapes drawing : List Rect) (is : IsSwapped shapes drawing) (tiles : List Tile)
    (are : AreTiles drawing Diffusion tiles) (whole : AreWhole drawing Diffusion tiles) (pairs : List Pair)
    (touching : AreTouching tiles pairs) (long : HaveLongLegs tiles pairs)
    (bordered : AreBordered (covered shapes) tiles) where
  colour_in : (t : Tile) → Contains tiles t → (k : ℕ) → t.colour ≡ k → (x y : ℤ) → InTile t x y
      → HasColour drawing Diffusion k x y
  colour_in t has k e x y i =
      let of_tile = All-contains (IsTile drawing Diffusion) tiles t are.each has in
      subst (λ z. HasColour drawing Diffusion z x y) e
      ((of_tile.stack.each y i.bottom i.top).each x i.left i.right)

  pub none_open : (x y : ℤ) → ¬ IsOpenGate (covered shapes) x y
  none_open x y o = go o.bad
    where
      go : IsBad (covered shapes) o.way x y → ⊥
      go bad =
          let (g, has_g, two, in_g) = whole.tile 2 x y (omega arith)
          (gate_colour shapes drawing is x y o.gate o.diffusion o.unburied) in
          let u = to_x o.way x 1 in
          let v = to_y o.way y 1 in
          let next = beside_of o.way x y in
          elim bad [
            | nothing no_p no_n ↦ elim (bordered g has_g two x y u v in_g next) [ inl p ↦ no_p p | inr n ↦ no_n n ]
            | short p no_n k some few lacks ↦ (
                let (t, has_t, one, in_t) = whole.tile 1 u v (omega arith)
                (alone_colour shapes drawing is u v p no_n) in
                let fit = fitting tiles pairs touching long g t has_g has_t two one x y u v in_g in_t next in
                let far = far_in g t x y in_g
                (λ i. (alone_of shapes drawing is x y (colour_in t has_t 1 one x y i)).1 o.diffusion) fit.0 fit.1
                k some few o.way in_t
                (λ i. no_n (gate_of shapes drawing is u v (colour_in g has_g 2 two u v i))) in
                let alone = alone_of shapes drawing is (to_x o.way x k) (to_y o.way y k)
                (colour_in t has_t 1 one (to_x o.way x k) (to_y o.way y k) far) in
                elim lacks [ inl no_p ↦ no_p alone.0 | inr n ↦ alone.1 n ])
          ]
