-- Blocks that a layer leaves open.
use Rattle.std.proofs.Common.{ℕ, zero, suc, ◌≡◌, ◌⊎◌, List, [], ◌∷◌, map, inl, inr, refl, sym, subst}
use Rattle.std.proofs.Common.{arith, length, get_or, Bool, Option, Some, None}
use Rattle.std.specs.Prelude.{◌↔◌, IsSome, MatchOption, All, Contains, ℤ, pos, negsuc, ◌+ℤ◌, ◌≤ℤ◌, ◌<ℤ◌, slice_get}
use Rattle.std.specs.List.{AllZip}
use Rattle.std.proofs.lemmas.Int.{ints}
use Rattle.std.proofs.lemmas.List.Elements.{All-contains, All-map, All-weaker}
use Rattle.std.proofs.lemmas.Option.{same_Some, slice_get-get_or}
use Rattle.mp_base.proofs.Contents.{contains_head, contains_behind, contains_map}
use Rattle.mp_base.proofs.Entries.{contains_from_get}
use Rattle.lam_geom.specs.declared.layer.Layer.{Layer}
use Rattle.lam_geom.specs.declared.layer.Layer.TheVariants.{ND, NP, NC, NM}
use Rattle.lam_geom.specs.declared.place.Point.{Point}
use Rattle.lam_geom.specs.declared.rect.Rect.{Rect}
use Rattle.lam_geom.specs.Moves.{IsNearRect}
use Rattle.lam_geom.specs.Squares.{covered}
use Rattle.lam_geom.specs.Rules.{IsInBlock, IsWhole}
use Rattle.lam_geom.proofs.Covered.{covered_by}
use Rattle.mask_runs.specs.declared.mask.Mask.TheVariants.{Only}
use Rattle.mask_tiles.specs.declared.tile.Tile.{Tile}
use Rattle.mask_tiles.specs.Tiles.{IsTile, InTile, IsTileOf, AreTiles, AreWhole}
use Rattle.mask_tiles.proofs.SeenLayers.{covered_only}
use Rattle.rule_tiles.specs.Areas.{grown, Reaches, held, IsSolid, IsAreaOf, Lacks, IsOnField, field}
use Rattle.rule_tiles.specs.Cuts.{IsNearTile, IsNearCorner, corner_of, block_of, AreFlags, AreGaps}
use Rattle.rule_tiles.specs.Cuts.{IsBareAt, IsJoined}
use Rattle.rule_tiles.proofs.Areas.{reached_by, reaches_all, covered_grown, all_of, near_on_field}
use Rattle.rule_tiles.proofs.Listing.{flags_same}
use Rattle.rule_tiles.proofs.Narrow.{whole_block, open_block, far_edge}
use Rattle.rule_tiles.proofs.Regions.{tile_on, corner_in}

-- ---- rectangles on the field

pub area_near : (area : List Rect) → All IsNearRect area → All IsOnField area
area_near area near = All-weaker IsNearRect IsOnField near_on_field area near

-- what lies inside rectangles on the field is on it
pub area_on_field : (Is : ℤ → ℤ → Type 0) (area from : List Rect) → IsAreaOf Is area
    → ((x y : ℤ) → Is x y → held from x y) → All IsOnField from → All IsOnField area
area_on_field Is area from a inside on = all_of IsOnField area (λ r c.
    let s = All-contains IsSolid area r a.solid c in
    let wide = s.wide in
    let tall = s.tall in
    let low = held_at r c r.x0 r.y0 (omega (arith, ints)) wide (omega (arith, ints)) tall in
    let high = held_at r c (r.x1 +ℤ negsuc 0) (r.y1 +ℤ negsuc 0) (omega (arith, ints)) (omega (arith, ints))
    (omega (arith, ints)) (omega (arith, ints)) in
    let p = All-contains IsOnField from low.0 on low.1 in
    let q = All-contains IsOnField from high.0 on high.1 in
    let l = low.2 in
    let l0 = l.left in
    let l1 = l.bottom in
    let h = high.2 in
    let h0 = h.right in
    let h1 = h.top in
    let p0 = p.x0 in
    let p1 = p.y0 in
    let q0 = q.x1 in
    let q1 = q.y1 in
    record {
      x0 = omega (arith, ints);
      y0 = omega (arith, ints);
      x1 = omega (arith, ints);
      y1 = omega (arith, ints);
      x0_high = omega (arith, ints);
      y0_high = omega (arith, ints);
      x1_low = omega (arith, ints);
      y1_low = omega (arith, ints);
    })
  where
    held_at : (r : Rect) → Contains area r → (x y : ℤ) → r.x0 ≤ℤ x → x <ℤ r.x1 → r.y0 ≤ℤ y → y <ℤ r.y1
        → (q : Rect) × Contains from q × Reaches 0 0 q x y
    held_at r c x y l m n o = reached_by 0 0 from x y (inside x y ((a.same x y).0 (reaches_all 0 0 area x y r c
        (record {
          left = omega (arith, ints);
          right = omega (arith, ints);
          bottom = omega (arith, ints);
          top = omega (arith, ints);
        }))))

pub field_on_field : (edge : ℤ) → pos 0 ≤ℤ edge → edge ≤ℤ far_edge → All IsOnField (field edge ∷ [])
field_on_field edge low high zero d l = record {
  x0 = omega (arith, ints);
  y0 = omega (arith, ints);
  x1 = omega (arith, ints);
  y1 = omega (arith, ints);
  x0_high = omega (arith, ints);
  y0_high = omega (arith, ints);
  x1_low = omega (arith, ints);
  y1_low = omega (arith, ints);
}
field_on_field edge low high (suc k) d l = absurd (omega arith)

block_on_field : (p : Point) → IsNearCorner p → IsOnField (block_of 2000 p)
block_on_field p n =
    let a = n.left in
    let b = n.right in
    let c = n.bottom in
    let d = n.top in
    record {
      x0 = omega (arith, ints);
      y0 = omega (arith, ints);
      x1 = omega (arith, ints);
      y1 = omega (arith, ints);
      x0_high = omega (arith, ints);
      y0_high = omega (arith, ints);
      x1_low = omega (arith, ints);
      y1_low = omega (arith, ints);
    }

pub blocks_on_field : (corners : List Point) → All IsNearCorner corners → All IsOnField (map (block_of 2000) corners)
blocks_on_field corners near =
    All-map IsOnField (block_of 2000) corners
    (All-weaker IsNearCorner (λ p. IsOnField (block_of 2000 p)) block_on_field corners near)

pub near_tiles : (shapes : List Rect) (tiles : List Tile) → All IsNearRect shapes → AreTiles shapes (Only NC) tiles
    → AreWhole shapes (Only NC) tiles → All IsNearTile tiles
near_tiles shapes tiles near are whole = all_of IsNearTile tiles (λ t c.
    let tile = All-contains (IsTile shapes (Only NC)) tiles t are.each c in
    let on = tile_on shapes tiles are whole t t.x0 t.y0 tile (corner_in shapes tiles are whole t tile) in
    let r = covered_by shapes NC t.x0 t.y0 on in
    let n = All-contains IsNearRect shapes r.0 near r.1 in
    let h = r.2 in
    let l = h.left in
    let m = h.right in
    let b = h.bottom in
    let o = h.top in
    let n0 = n.x0.0 in
    let n1 = n.x1.1 in
    let n2 = n.y0.0 in
    let n3 = n.y1.1 in
    record { x0 = (omega (arith, ints), omega (arith, ints)); y0 = (omega (arith, ints), omega (arith, ints)) })

near_corner : (t : Tile) → IsNearTile t → IsNearCorner (corner_of t)
near_corner t n =
    let a = n.x0.0 in
    let b = n.x0.1 in
    let c = n.y0.0 in
    let d = n.y0.1 in
    record {
      left = omega (arith, ints);
      right = omega (arith, ints);
      bottom = omega (arith, ints);
      top = omega (arith, ints);
    }

pub near_corners : (tiles : List Tile) → All IsNearTile tiles → All IsNearCorner (map corner_of tiles)
near_corners tiles near =
    All-map IsNearCorner corner_of tiles
    (All-weaker IsNearTile (λ t. IsNearCorner (corner_of t)) near_corner tiles near)

-- ---- gaps

zip_in : {A B : Type 0} (R S : A → B → Type 0) (xs : List A) (ys : List B)
    → ((x : A) (y : B) → Contains xs x → R x y → S x y) → AllZip R xs ys → AllZip S xs ys
zip_in R S [] [] f h = h
zip_in R S [] (y ∷ ys) f h = absurd h
zip_in R S (x ∷ xs) [] f h = absurd h
zip_in R S (x ∷ xs) (y ∷ ys) f h =
    (f x y (contains_head x xs) h.0, zip_in R S xs ys (λ a b c. f a b (contains_behind a x xs c)) h.1)

module _ (shapes : List Rect) (l : Layer) (own lacks open_ : List Rect) (corners : List Point) (tiles : List Tile)
    (same : (x y : ℤ) → held own x y ↔ covered shapes l x y)
    (area : IsAreaOf (Lacks (held (map (block_of 2000) corners)) (held own)) lacks)
    (is : open_ ≡ map (grown ND 1999 0) lacks) (are : AreTiles open_ (Only ND) tiles) where
  in_blocks : (p : Point) → Contains corners p → (x y : ℤ) → IsInBlock p.x p.y 2000 x y
      → held (map (block_of 2000) corners) x y
  in_blocks p c x y i =
      let a = i.left in
      let b = i.right in
      let d = i.bottom in
      let e = i.top in
      reaches_all 0 0 (map (block_of 2000) corners) x y (block_of 2000 p) (contains_map (block_of 2000) corners p c)
      (record {
        left = omega (arith, ints);
        right = omega (arith, ints);
        bottom = omega (arith, ints);
        top = omega (arith, ints);
      })

  whole_own : (p : Point) → IsWhole (held own) p.x p.y 2000 → IsWhole (covered shapes l) p.x p.y 2000
  whole_own p h x y i = (same x y).0 (h x y i)

  own_whole : (p : Point) → IsWhole (covered shapes l) p.x p.y 2000 → IsWhole (held own) p.x p.y 2000
  own_whole p h x y i = (same x y).1 (h x y i)

  gap_of : (p : Point) (f : Option ℕ) → Contains corners p → IsTileOf open_ (Only ND) tiles p f
      → MatchOption f (IsWhole (covered shapes l) p.x p.y 2000) (λ n. ¬ IsWhole (covered shapes l) p.x p.y 2000)
  gap_of p None c h = whole_own p (whole_block own (map (block_of 2000) corners) lacks (held own) 2000 1999 refl
      (λ x y g. g) (λ x y g. g) area p.x p.y (in_blocks p c) (λ r. bare 0 refl (covered_only open_ ND 0 p.x p.y h)
      (subst (λ s. covered s ND p.x p.y) (sym is) ((covered_grown ND 1999 0 lacks p.x p.y).1 r))))
    where
      bare : (k : ℕ) → k ≡ 0 → (covered open_ ND p.x p.y × (k ≡ 1)) ⊎ (¬ covered open_ ND p.x p.y × (k ≡ 0))
          → ¬ covered open_ ND p.x p.y
      bare k z (inl g) = λ u. let e = g.1 in omega (arith, e, z)
      bare k z (inr g) = g.0
  gap_of p (Some n) c h = λ w. open_block own (map (block_of 2000) corners) lacks (held own) 2000 1999 refl
      (λ x y g. g) area p.x p.y ((covered_grown ND 1999 0 lacks p.x p.y).0 (subst (λ s. covered s ND p.x p.y) is
      (drawn h.0 h.2 (All-contains (IsTile open_ (Only ND)) tiles h.0 are.each (contains_from_get tiles n h.0 h.1)))))
      (own_whole p w)
    where
      drawn : (t : Tile) → InTile t p.x p.y → IsTile open_ (Only ND) t → covered open_ ND p.x p.y
      drawn t i tile =
          let k = (tile.stack.each p.y i.bottom i.top).each p.x i.left i.right in
          elim (covered_only open_ ND t.colour p.x p.y k) [
            | inl g ↦ g.0
            | inr g ↦ absurd (let some = tile.some in let none = g.1 in omega (arith, some, none))
          ]

  pub gaps_are : (found : List (Option ℕ)) → AllZip (IsTileOf open_ (Only ND) tiles) corners found
      → AreGaps (covered shapes l) 2000 corners found
  gaps_are found h =
      zip_in (IsTileOf open_ (Only ND) tiles)
      (λ p gap. MatchOption gap (IsWhole (covered shapes l) p.x p.y 2000)
      (λ n. ¬ IsWhole (covered shapes l) p.x p.y 2000)) corners found gap_of h

-- the gap of a corner
gap_at : (on : ℤ → ℤ → Type 0) (corners : List Point) (gaps : List (Option ℕ)) → AreGaps on 2000 corners gaps
    → (i : ℕ) (p : Point) → slice_get corners i ≡ Some p
    → MatchOption (get_or gaps i None) (IsWhole on p.x p.y 2000) (λ n. ¬ IsWhole on p.x p.y 2000)
gap_at on [] gaps h i p e = absurd (cc)
gap_at on (q ∷ qs) [] h i p e = absurd h
gap_at on (q ∷ qs) (g ∷ gs) h zero p e =
    subst (λ z. MatchOption g (IsWhole on z.x z.y 2000) (λ n. ¬ IsWhole on z.x z.y 2000)) (same_Some q p e) h.0
gap_at on (q ∷ qs) (g ∷ gs) h (suc i) p e = gap_at on qs gs h.1 i p e

pub as_many_gaps : (on : ℤ → ℤ → Type 0) (corners : List Point) (gaps : List (Option ℕ))
    → AreGaps on 2000 corners gaps → length gaps ≡ length corners
as_many_gaps on [] [] h = refl
as_many_gaps on [] (g ∷ gs) h = absurd h
as_many_gaps on (p ∷ ps) [] h = absurd h
as_many_gaps on (p ∷ ps) (g ∷ gs) h = let e = as_many_gaps on ps gs h.1 in omega arith

not_whole : (P : Type 0) (gap : Option ℕ) → MatchOption gap P (λ n. ¬ P) → IsSome gap → ¬ P
not_whole P (Some n) h s = h
not_whole P None h s = absurd (cc)

some_or_whole : (P : Type 0) (gap : Option ℕ) → MatchOption gap P (λ n. ¬ P) → IsSome gap ⊎ P
some_or_whole P (Some n) h = inl refl
some_or_whole P None h = inr h

pub bare_flags_are : (covers : Layer → ℤ → ℤ → Type 0) (corners : List Point) (odd : List Bool)
    (metal polysilicon diffusion : List (Option ℕ)) (n : ℕ) (flags : List Bool) → n ≡ length corners
    → AreGaps (covers NM) 2000 corners metal → AreGaps (covers NP) 2000 corners polysilicon
    → AreGaps (covers ND) 2000 corners diffusion → AreFlags (IsJoined odd metal polysilicon diffusion) n flags
    → AreFlags (IsBareAt covers corners odd) (length corners) flags
bare_flags_are covers corners odd metal polysilicon diffusion n flags many m p d h =
    subst (λ k. AreFlags (IsBareAt covers corners odd) k flags) many
    (flags_same (IsJoined odd metal polysilicon diffusion) (IsBareAt covers corners odd) n flags (λ i l. (
      λ g. (
        g.0,
        λ c at b. elim g.1 [
          | inl s ↦ not_whole _ (get_or metal i None) (gap_at (covers NM) corners metal m i c at) s b.0
          | inr s ↦ elim b.1 [
            | inl w ↦ not_whole _ (get_or polysilicon i None) (gap_at (covers NP) corners polysilicon p i c at) s.0 w
            | inr w ↦ not_whole _ (get_or diffusion i None) (gap_at (covers ND) corners diffusion d i c at) s.1 w
          ]
        ],
      ),
      λ g.
          let c = get_or corners i no_point in
          let at = slice_get-get_or corners i no_point (omega arith) in
          let bare = g.1 c at in (
            g.0,
            elim (some_or_whole _ (get_or metal i None) (gap_at (covers NM) corners metal m i c at)) [
              | inl s ↦ inl s
              | inr wm ↦ elim (some_or_whole _ (get_or polysilicon i None)
                  (gap_at (covers NP) corners polysilicon p i c at)) [
                    | inr wp ↦ absurd (bare (wm, inl wp))
                    | inl sp ↦ elim (some_or_whole _ (get_or diffusion i None)
                        (gap_at (covers ND) corners diffusion d i c at)) [
                          | inr wd ↦ absurd (bare (wm, inr wd))
                          | inl sd ↦ inr (sp, sd)
                        ]
                  ]
            ],
          ),
    )) h)
  where
    no_point : Point
    no_point = record { x = pos 0; y = pos 0 }
