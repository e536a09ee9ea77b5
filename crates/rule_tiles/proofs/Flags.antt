-- First squares by flags of tiles.
use Rattle.std.proofs.Common.{ℕ, zero, suc, ◌≡◌, ◌<◌, ◌⊎◌, List, [], ◌∷◌, map, inl, inr, refl, sym, ap}
use Rattle.std.proofs.Common.{subst, arith, ◌∙◌, length, get_or, Bool, true, false, true≢false}
use Rattle.std.specs.Prelude.{AllPairs, ℤ, pos, ◌+ℤ◌, ◌<ℤ◌, Option, Some, None}
use Rattle.std.specs.Prelude.{slice_get}
use Rattle.std.proofs.lemmas.Bool.{cases_order}
use Rattle.std.proofs.lemmas.Int.{ints, by_lt_z}
use Rattle.std.proofs.lemmas.Option.{same_Some, slice_get_within, get_or_from_slice_get}
use Rattle.mp_base.proofs.Entries.{get_from_contains}
use Rattle.lam_geom.specs.declared.layer.Layer.TheVariants.{NC}
use Rattle.lam_geom.specs.declared.place.Point.{Point}
use Rattle.lam_geom.specs.declared.rect.Rect.{Rect}
use Rattle.lam_geom.specs.Squares.{covered, RectanglesAreJoined}
use Rattle.lam_geom.specs.Rules.{IsSquareCut, IsOddCut, IsBareCut, IsSurrounded}
use Rattle.mask_runs.specs.declared.mask.Mask.TheVariants.{Only}
use Rattle.mask_tiles.specs.declared.tile.Tile.{Tile}
use Rattle.mask_tiles.specs.Tiles.{IsTile, InTile, AreTiles, AreWhole, Before}
use Rattle.rule_tiles.specs.First.{IsFirst}
use Rattle.rule_tiles.specs.Cuts.{IsCutSize, IsOddAt, AreFlags, IsFirstFlag, IsBareAt}
use Rattle.rule_tiles.specs.Cuts.{IsBacked, corner_of}
use Rattle.rule_tiles.proofs.Regions.{tile_on, tile_over, corner_in, odd_cut, square_cut, one_square}

is_one : (b : Bool) → (b ≡ true) ⊎ (b ≡ false)
is_one true = inl refl
is_one false = inr refl

sized : (t : Tile) → IsCutSize t ⊎ (¬ IsCutSize t)
sized t =
    by_lt_z t.x1 (t.x0 +ℤ pos 1000) (λ m. inr (λ s. let w = s.wide in omega (arith, ints)))
    (λ a. by_lt_z (t.x0 +ℤ pos 1000) t.x1 (λ m. inr (λ s. let w = s.wide in omega (arith, ints)))
    (λ b. by_lt_z t.y1 (t.y0 +ℤ pos 1000) (λ m. inr (λ s. let w = s.tall in omega (arith, ints)))
    (λ c. by_lt_z (t.y0 +ℤ pos 1000) t.y1 (λ m. inr (λ s. let w = s.tall in omega (arith, ints)))
    (λ d. inl (record { wide = omega (arith, ints); tall = omega (arith, ints) })))))

pub within_any : {X : Type 0} (xs : List X) (i : ℕ) (d e : X) → i < length xs → get_or xs i d ≡ get_or xs i e
within_any [] i d e l = absurd (omega arith)
within_any (x ∷ xs) zero d e l = refl
within_any (x ∷ xs) (suc i) d e l = within_any xs i d e (omega (arith, l))

module _ (tiles : List Tile) (corner : (i : ℕ) (t : Tile) → slice_get tiles i ≡ Some t → InTile t t.x0 t.y0)
    (ascending : AllPairs Before tiles) where
  before_at : (i j : ℕ) (t u : Tile) → i < j → slice_get tiles i ≡ Some t → slice_get tiles j ≡ Some u → Before t u
  before_at i j t u o a b =
      let l = slice_get_within tiles j u b in
      subst (λ z. Before z u) (get_or_from_slice_get tiles i t t a)
      (subst (λ z. Before (get_or tiles i t) z) (get_or_from_slice_get tiles j u t b) (ascending i j t o l))

  -- no square of a later tile comes before the corner
  not_sooner : (t u : Tile) (x y : ℤ) → (t ≡ u) ⊎ Before t u → InTile u x y → (y <ℤ t.y0) ⊎ (y ≡ t.y0) × (x <ℤ t.x0)
      → ⊥
  not_sooner t u x y (inl e) h (inl b) =
      let g = h.bottom in let f : t.y0 ≡ u.y0 = ap (λ z. z.y0) e in omega (arith, ints)
  not_sooner t u x y (inl e) h (inr b) =
      let g = h.left in let f : t.x0 ≡ u.x0 = ap (λ z. z.x0) e in let b1 = b.1 in omega (arith, ints)
  not_sooner t u x y (inr (inl e)) h (inl b) = let g = h.bottom in omega (arith, ints)
  not_sooner t u x y (inr (inl e)) h (inr b) = let g = h.bottom in let b0 = b.0 in omega (arith, ints)
  not_sooner t u x y (inr (inr e)) h (inl b) = let g = h.bottom in let e0 = e.0 in omega (arith, ints)
  not_sooner t u x y (inr (inr e)) h (inr b) =
      let g = h.left in let e1 = e.1 in let b1 = b.1 in omega (arith, ints)

  module _ (P : ℤ → ℤ → Type 0) (Is : ℕ → Type 0) (flags : List Bool) (are : AreFlags Is (length tiles) flags)
      (to : (x y : ℤ) → P x y → (i : ℕ) × (t : Tile) × (slice_get tiles i ≡ Some t) × Is i × InTile t x y)
      (back : (i : ℕ) (t : Tile) (x y : ℤ) → slice_get tiles i ≡ Some t → Is i → InTile t x y → P x y) where
    pub first_flag : (o : Option Point) → IsFirstFlag tiles flags o → IsFirst P o
    first_flag None h = λ x y p.
        let g = to x y p in
        let l = slice_get_within tiles g.0 g.1 g.2 in
        true≢false (sym ((are.each g.0 false l).1 g.3) ∙ h g.0 l)
    first_flag (Some p) h =
        let l = slice_get_within tiles h.number h.tile h.at in
        let is = (are.each h.number false l).0 h.set in
        let c = corner h.number h.tile h.at in (
          subst (λ x. P x p.y) (sym h.x) (subst (λ y. P (h.tile).x0 y) (sym h.y)
              (back h.number h.tile (h.tile).x0 (h.tile).y0 h.at is c)),
          λ x y b q.
              let g = to x y q in
              let m = slice_get_within tiles g.0 g.1 g.2 in
              let set = (are.each g.0 false m).1 g.3 in
              let later : (h.tile ≡ g.1) ⊎ Before h.tile g.1 =
              elim (cases_order h.number g.0) [
                | inl e ↦ inl (same_Some h.tile g.1 (sym h.at ∙ subst (λ k. slice_get tiles k ≡ Some g.1) (sym e) g.2))
                | inr o ↦ elim o [
                  | inl n ↦ inr (before_at h.number g.0 h.tile g.1 n h.at g.2)
                  | inr n ↦ absurd (true≢false (sym set ∙ h.others g.0 n))
                ]
              ] in
              let sooner : (y <ℤ (h.tile).y0) ⊎ (y ≡ (h.tile).y0) × (x <ℤ (h.tile).x0) =
              subst (λ v. (y <ℤ v) ⊎ (y ≡ v) × (x <ℤ (h.tile).x0)) h.y
              (subst (λ u. (y <ℤ p.y) ⊎ (y ≡ p.y) × (x <ℤ u)) h.x b) in
              not_sooner h.tile g.1 x y later g.4 sooner,
        )

module _ (shapes : List Rect) (tiles : List Tile) (are : AreTiles shapes (Only NC) tiles)
    (whole : AreWhole shapes (Only NC) tiles) (joined : RectanglesAreJoined) (odd : List Bool)
    (flags : AreFlags (IsOddAt tiles) (length tiles) odd) where
  tile_is : (i : ℕ) (t : Tile) → slice_get tiles i ≡ Some t → IsTile shapes (Only NC) t
  tile_is i t e = subst (IsTile shapes (Only NC)) (get_or_from_slice_get tiles i t t e)
      (are.each i t (slice_get_within tiles i t e))

  corners : (i : ℕ) (t : Tile) → slice_get tiles i ≡ Some t → InTile t t.x0 t.y0
  corners i t e = corner_in shapes tiles are whole t (tile_is i t e)

  even_square : (i : ℕ) (t : Tile) (x y : ℤ) → slice_get tiles i ≡ Some t → ¬ IsOddAt tiles i → InTile t x y
      → IsSquareCut (covered shapes) x y t.x0 t.y0
  even_square i t x y at n h =
      square_cut shapes tiles are whole joined i t at size (λ j g. n (inr (j, g))) x y h
    where
      size : IsCutSize t
      size = elim (sized t) [ inl s ↦ s | inr m ↦ absurd (n (inl (t, at, m))) ]

  numbered : (x y : ℤ) → covered shapes NC x y → (i : ℕ) × (t : Tile) × (slice_get tiles i ≡ Some t) × InTile t x y
  numbered x y c =
      let g = tile_over shapes tiles are whole x y c in
      let n = get_from_contains tiles g.0 g.1 in
      (n.0, g.0, n.1, g.2)

  pub first_odd : (o : Option Point) → IsFirstFlag tiles odd o → IsFirst (IsOddCut (covered shapes)) o
  first_odd o h = first_flag tiles corners are.ascending (IsOddCut (covered shapes)) (IsOddAt tiles) odd flags
      (λ x y c.
      let g = numbered x y c.here in
      let l = slice_get_within tiles g.0 g.1 g.2 in
      elim (is_one (get_or odd g.0 false)) [
        | inl e ↦ (g.0, g.1, g.2, (flags.each g.0 false l).0 e, g.3)
        | inr e ↦ absurd (c.odd (g.1).x0 (g.1).y0 (even_square g.0 g.1 x y g.2
            (λ n. true≢false (sym ((flags.each g.0 false l).1 n) ∙ e)) g.3))
      ])
      (λ i t x y at n m. odd_cut shapes tiles are whole i t x y at m n) o h

  even_at : (i : ℕ) → i < length tiles → get_or odd i true ≡ false → ¬ IsOddAt tiles i
  even_at i l e n = true≢false (sym ((flags.each i true l).1 n) ∙ e)

  module _ (bare : List Bool)
      (bares : AreFlags (IsBareAt (covered shapes) (map corner_of tiles) odd) (length (map corner_of tiles)) bare)
      (as_many : length (map corner_of tiles) ≡ length tiles) where
    corner_at : (i : ℕ) (t : Tile) → slice_get tiles i ≡ Some t → slice_get (map corner_of tiles) i ≡ Some (corner_of t)
    corner_at i t e = map_at tiles i e
      where
        map_at : (ts : List Tile) (k : ℕ) → slice_get ts k ≡ Some t
            → slice_get (map corner_of ts) k ≡ Some (corner_of t)
        map_at [] k f = absurd (cc)
        map_at (u ∷ us) zero f = ap (λ z. Some (corner_of z)) (same_Some u t f)
        map_at (u ∷ us) (suc k) f = map_at us k f

    bare_here : (x y : ℤ) → IsBareCut (covered shapes) x y
        → (i : ℕ) × (t : Tile) × (slice_get tiles i ≡ Some t) × IsBareAt (covered shapes) (map corner_of tiles) odd i
        × InTile t x y
    bare_here x y c =
        let g = numbered x y c.here in
        let l = slice_get_within tiles g.0 g.1 g.2 in
        elim (is_one (get_or odd g.0 true)) [
          | inl e ↦ absurd ((odd_cut shapes tiles are whole g.0 g.1 x y g.2 g.3 ((flags.each g.0 true l).0 e)).odd c.a
              c.b c.square)
          | inr e ↦ (let s = one_square shapes x y c.a c.b (g.1).x0 (g.1).y0 c.square
              (even_square g.0 g.1 x y g.2 (even_at g.0 l e) g.3) in (
                g.0,
                g.1,
                g.2,
                (
                  e,
                  λ p at b. c.bare
                      (subst (λ u. IsSurrounded (covered shapes) u c.b) (sym s.0)
                      (subst (λ v. IsSurrounded (covered shapes) (g.1).x0 v) (sym s.1)
                      (subst (IsBacked (covered shapes)) (same_Some p (corner_of g.1)
                      (sym at ∙ corner_at g.0 g.1 g.2)) b))),
                ),
                g.3,
              ))
        ]

    pub first_bare : (o : Option Point) → IsFirstFlag tiles bare o → IsFirst (IsBareCut (covered shapes)) o
    first_bare o h = first_flag tiles corners are.ascending (IsBareCut (covered shapes))
        (IsBareAt (covered shapes) (map corner_of tiles) odd) bare
        (record { long = bares.long ∙ as_many; each = λ i d l. bares.each i d (omega arith) }) bare_here
        (λ i t x y at n m. record {
          here = tile_on shapes tiles are whole t x y (tile_is i t at) m;
          a = t.x0;
          b = t.y0;
          square = even_square i t x y at (even_at i (slice_get_within tiles i t at) n.0) m;
          bare = n.1 (corner_of t) (corner_at i t at);
        }) o h
