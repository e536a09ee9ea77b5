-- The grid, its blocks and its spots, one more at a time.
use Rattle.std.proofs.Common.{ℕ, ◌≡◌, ◌+◌, ◌<◌, ◌≤◌, ◌⊎◌, ◌↔◌, List, [], ◌∷◌, ◌++◌, true, false, inl, inr, refl, sym}
use Rattle.std.proofs.Common.{ap, ◌∙◌, subst, arith, length, get_or, take, map, eq-or-lt_of_le, true≢false, pos}
use Rattle.std.specs.Prelude.{ℤ, All, Contains}
use Rattle.std.specs.List.Sorted.{IsPermutation, IsNonDecreasingBy}
use Rattle.std.proofs.lemmas.List.Elements.{All-more, All-weaker, All-push, Contains-append_left, Contains-push}
use Rattle.std.proofs.lemmas.List.Elements.{Contains-push_cases, All-contains}
use Rattle.std.proofs.lemmas.List.{map-append, take_all, take_more, get_or_default}
use Rattle.std.proofs.lemmas.Bool.{cases_lt}
use Rattle.std.proofs.lemmas.Int.{ints}
use Rattle.std.proofs.lemmas.List.Sorted.{All-permutation, Contains-permutation}
use Rattle.lam_geom.specs.declared.layer.Layer.TheVariants.{ND}
use Rattle.lam_geom.specs.declared.rect.Rect.{Rect}
use Rattle.lam_geom.specs.declared.place.Point.{Point}
use Rattle.mask_runs.specs.declared.mask.Mask.{Mask}
use Rattle.mask_runs.specs.Colours.{uses}
use Rattle.region_sweep.specs.declared.block.Block.{Block}
use Rattle.region_sweep.specs.declared.spot.Spot.{Spot}
use Rattle.region_sweep.specs.Grid.{IsDrawn, AreDrawn, AreBlocks, block_of, AreSpots, spot_of, Ascending, cell_of}
use Rattle.region_sweep.specs.Grid.{tile_of}
use Rattle.strip_rows.specs.declared.strip.Strip.{Strip}
use Rattle.mask_tiles.specs.declared.tile.Tile.{Tile}
use Rattle.region_sweep.specs.Rows.{AreAsked, no_spot}
use Rattle.region_sweep.specs.Blocks.{IsInside}
use Rattle.region_sweep.proofs.Axes.{in_cell}

abbrev pub no_rect : Rect
no_rect = record { layer = ND; x0 = pos 0; y0 = pos 0; x1 = pos 0; y1 = pos 0 }

abbrev pub no_place : Point
no_place = record { x = pos 0; y = pos 0 }

-- the spots of the places before one
pub record AreSpotsSoFar (xs ys : List ℤ) (places : List Point) (upto : ℕ) (spots : List Spot) : Type 0 where
  pub each : All (λ s. (s.index < upto) × ((d : Point) → s ≡ spot_of xs ys s.index (get_or places s.index d))) spots
  pub all : (i : ℕ) (d : Point) → i < upto → Contains spots (spot_of xs ys i (get_or places i d))

keeps_two : (xs : List ℤ) (a b z : ℤ) → Contains xs z → Contains ((xs ++ a ∷ []) ++ b ∷ []) z
keeps_two xs a b z h = Contains-append_left (xs ++ a ∷ []) (b ∷ []) z (Contains-append_left xs (a ∷ []) z h)

has_first : (xs : List ℤ) (a b : ℤ) → Contains ((xs ++ a ∷ []) ++ b ∷ []) a
has_first xs a b = Contains-append_left (xs ++ a ∷ []) (b ∷ []) a (Contains-push xs a)

has_second : (xs : List ℤ) (a b : ℤ) → Contains ((xs ++ a ∷ []) ++ b ∷ []) b
has_second xs a b = Contains-push (xs ++ a ∷ []) b

pub drawn_more : (xs ys : List ℤ) (mask : Mask) (shapes : List Rect) (i : ℕ) (d : Rect) → i < length shapes
    → AreDrawn xs ys mask (take i shapes)
    → AreDrawn ((xs ++ (get_or shapes i d).x0 ∷ []) ++ (get_or shapes i d).x1 ∷ [])
    ((ys ++ (get_or shapes i d).y0 ∷ []) ++ (get_or shapes i d).y1 ∷ []) mask
    (take (i + 1) shapes)
drawn_more xs ys mask shapes i d l h =
    let r = get_or shapes i d in
    let us = (xs ++ r.x0 ∷ []) ++ r.x1 ∷ [] in
    let vs = (ys ++ r.y0 ∷ []) ++ r.y1 ∷ [] in
    All-more (λ q. uses mask q.layer ≡ true → IsDrawn us vs q) shapes i d l
    (All-weaker (λ q. uses mask q.layer ≡ true → IsDrawn xs ys q) (λ q. uses mask q.layer ≡ true → IsDrawn us vs q)
    (λ q d u. let g = d u in record {
      x0 = keeps_two xs r.x0 r.x1 q.x0 g.x0;
      x1 = keeps_two xs r.x0 r.x1 q.x1 g.x1;
      y0 = keeps_two ys r.y0 r.y1 q.y0 g.y0;
      y1 = keeps_two ys r.y0 r.y1 q.y1 g.y1;
    }) (take i shapes) h)
    (λ u. record {
      x0 = has_first xs r.x0 r.x1;
      x1 = has_second xs r.x0 r.x1;
      y0 = has_first ys r.y0 r.y1;
      y1 = has_second ys r.y0 r.y1;
    })

pub drawn_same : (xs ys : List ℤ) (mask : Mask) (shapes : List Rect) (i : ℕ) (d : Rect) → i < length shapes
    → uses mask (get_or shapes i d).layer ≡ false → AreDrawn xs ys mask (take i shapes)
    → AreDrawn xs ys mask (take (i + 1) shapes)
drawn_same xs ys mask shapes i d l f h =
    All-more (λ q. uses mask q.layer ≡ true → IsDrawn xs ys q) shapes i d l h (λ u. absurd (true≢false (sym u ∙ f)))

pub drawn_on : (xs ys us vs : List ℤ) (mask : Mask) (shapes : List Rect) (n : ℕ) → length shapes ≤ n
    → ((z : ℤ) → Contains xs z ↔ Contains us z)
    → ((z : ℤ) → Contains ys z ↔ Contains vs z) → AreDrawn xs ys mask (take n shapes) → AreDrawn us vs mask shapes
drawn_on xs ys us vs mask shapes n l f g h =
    All-weaker (λ q. uses mask q.layer ≡ true → IsDrawn xs ys q) (λ q. uses mask q.layer ≡ true → IsDrawn us vs q)
    (λ q d u. let e = d u in
    record { x0 = (f q.x0).0 e.x0; x1 = (f q.x1).0 e.x1; y0 = (g q.y0).0 e.y0; y1 = (g q.y1).0 e.y1 }) shapes
    (subst (λ qs. AreDrawn xs ys mask qs) (take_all n shapes l) h)

pub same_drawn : (xs us ys vs : List ℤ) (mask : Mask) (shapes : List Rect) → xs ≡ us → ys ≡ vs
    → AreDrawn us vs mask shapes → AreDrawn xs ys mask shapes
same_drawn xs us ys vs mask shapes e f h = rw (e, f) h

pub blocks_none : (xs ys : List ℤ) (mask : Mask) → AreBlocks xs ys mask [] []
blocks_none xs ys mask =
    record { each = λ k d l. absurd (omega arith); all = λ r h u. absurd (let m = h.1 in omega arith) }

contains_more : {X : Type 0} (xs : List X) (i : ℕ) (x d : X) → i < length xs → Contains (take (i + 1) xs) x
    → Contains (take i xs) x ⊎ (get_or xs i d ≡ x)
contains_more xs i x d l h =
    Contains-push_cases (take i xs) (get_or xs i d) x (subst (λ v. Contains v x) (take_more xs i d l) h)

contains_still : {X : Type 0} (xs : List X) (i : ℕ) (x d : X) → i < length xs → Contains (take i xs) x
    → Contains (take (i + 1) xs) x
contains_still xs i x d l h =
    subst (λ v. Contains v x) (sym (take_more xs i d l)) (Contains-append_left (take i xs) (get_or xs i d ∷ []) x h)

contains_now : {X : Type 0} (xs : List X) (i : ℕ) (d : X) → i < length xs → Contains (take (i + 1) xs) (get_or xs i d)
contains_now xs i d l =
    subst (λ v. Contains v (get_or xs i d)) (sym (take_more xs i d l)) (Contains-push (take i xs) (get_or xs i d))

pub blocks_more : (xs ys : List ℤ) (mask : Mask) (shapes : List Rect) (blocks : List Block) (i : ℕ) (d : Rect)
    → i < length shapes
    → uses mask (get_or shapes i d).layer ≡ true → AreBlocks xs ys mask (take i shapes) blocks
    → AreBlocks xs ys mask (take (i + 1) shapes) (blocks ++ block_of xs ys (get_or shapes i d) ∷ [])
blocks_more xs ys mask shapes blocks i d l u h =
    let r = get_or shapes i d in
    let P = λ (qs : List Rect) (b : Block). (q : Rect) × Contains qs q × (uses mask q.layer ≡ true)
    × (b ≡ block_of xs ys q) in
    record {
      each = All-push (P (take (i + 1) shapes)) blocks (block_of xs ys r)
          (All-weaker (P (take i shapes)) (P (take (i + 1) shapes))
          (λ b g. (g.0, contains_still shapes i g.0 d l g.1, g.2, g.3)) blocks h.each)
          (r, contains_now shapes i d l, u, refl);
      all = λ q has v. elim (contains_more shapes i q d l has) [
        | inl g ↦ Contains-append_left blocks (block_of xs ys r ∷ []) (block_of xs ys q) (h.all q g v)
        | inr g ↦
            subst (λ p. Contains (blocks ++ block_of xs ys r ∷ []) (block_of xs ys p)) g
            (Contains-push blocks (block_of xs ys r))
      ];
    }

pub blocks_same : (xs ys : List ℤ) (mask : Mask) (shapes : List Rect) (blocks : List Block) (i : ℕ) (d : Rect)
    → i < length shapes
    → uses mask (get_or shapes i d).layer ≡ false → AreBlocks xs ys mask (take i shapes) blocks
    → AreBlocks xs ys mask (take (i + 1) shapes) blocks
blocks_same xs ys mask shapes blocks i d l f h =
    let P = λ (qs : List Rect) (b : Block). (q : Rect) × Contains qs q × (uses mask q.layer ≡ true)
    × (b ≡ block_of xs ys q) in
    record {
      each = All-weaker (P (take i shapes)) (P (take (i + 1) shapes))
          (λ b g. (g.0, contains_still shapes i g.0 d l g.1, g.2, g.3)) blocks h.each;
      all = λ q has v. elim (contains_more shapes i q d l has) [
        | inl g ↦ h.all q g v
        | inr g ↦ let w = ap (λ (p : Rect). uses mask p.layer) g in absurd (true≢false (sym v ∙ sym w ∙ f))
      ];
    }

pub blocks_sorted : (xs ys : List ℤ) (mask : Mask) (shapes : List Rect) (n : ℕ) (old new : List Block)
    → length shapes ≤ n → IsPermutation old new
    → AreBlocks xs ys mask (take n shapes) old → AreBlocks xs ys mask shapes new
blocks_sorted xs ys mask shapes n old new l p h =
    let g = subst (λ qs. AreBlocks xs ys mask qs old) (take_all n shapes l) h in
    record {
      each = All-permutation
          (λ b. (q : Rect) × Contains shapes q × (uses mask q.layer ≡ true) × (b ≡ block_of xs ys q)) old new p g.each;
      all = λ q has v. Contains-permutation old new (block_of xs ys q) p (g.all q has v);
    }

mark_some : (ms : List ℤ) (m : ℤ) → Ascending ms → Contains ms m → 0 < cell_of ms m
mark_some ms m up has = elim (cases_lt 0 (cell_of ms m)) [
  | inl l ↦ l
  | inr l ↦
      let a = (in_cell ms m up).above 0 l (let k = has.1 in omega arith) in
      let b = (in_cell ms m up).above has.0 (omega arith) has.1 in
      let e : get_or ms has.0 (pos 0) ≡ m = get_or_default ms has.0 (pos 0) m has.1 ∙ has.2 in
      absurd (omega (arith, ints))
]

-- the blocks of a grid keep off its edge
inside : (xs ys : List ℤ) (mask : Mask) (r : Rect) → Ascending xs → Ascending ys → IsDrawn xs ys r
    → uses mask r.layer ≡ true
    → IsInside mask (length xs + 1) (length ys + 1) (block_of xs ys r)
inside xs ys mask r upx upy d u = record {
  used = u;
  left = mark_some xs r.x0 upx d.x0;
  right = let w = (in_cell xs r.x1 upx).within in omega arith;
  low = mark_some ys r.y0 upy d.y0;
  high = let w = (in_cell ys r.y1 upy).within in omega arith;
}

pub all_inside : (xs ys : List ℤ) (mask : Mask) (shapes : List Rect) (blocks : List Block) → Ascending xs
    → Ascending ys → AreDrawn xs ys mask shapes
    → AreBlocks xs ys mask shapes blocks → All (IsInside mask (length xs + 1) (length ys + 1)) blocks
all_inside xs ys mask shapes blocks upx upy drawn h =
    All-weaker (λ b. (q : Rect) × Contains shapes q × (uses mask q.layer ≡ true) × (b ≡ block_of xs ys q))
    (IsInside mask (length xs + 1) (length ys + 1))
    (λ b g.
    let d = All-contains (λ q. uses mask q.layer ≡ true → IsDrawn xs ys q) shapes g.0 drawn g.1 g.2 in
    subst (IsInside mask (length xs + 1) (length ys + 1)) (sym g.3) (inside xs ys mask g.0 upx upy d g.2)) blocks h.each

pub spots_none : (xs ys : List ℤ) (places : List Point) → AreSpotsSoFar xs ys places 0 []
spots_none xs ys places = record { each = λ k d l. absurd (omega arith); all = λ i d l. absurd (omega arith) }

pub spots_more : (xs ys : List ℤ) (places : List Point) (i : ℕ) (spots : List Spot) (q : Point) → i < length places
    → AreSpotsSoFar xs ys places i spots
    → AreSpotsSoFar xs ys places (i + 1) (spots ++ spot_of xs ys i (get_or places i q) ∷ [])
spots_more xs ys places i spots q l h =
    let p = get_or places i q in
    let at = λ (d : Point). ap (spot_of xs ys i) (get_or_default places i q d l) in
    record {
      each = All-push
          (λ s. (s.index < i + 1) × ((d : Point) → s ≡ spot_of xs ys s.index (get_or places s.index d))) spots
          (spot_of xs ys i p)
          (All-weaker (λ s. (s.index < i) × ((d : Point) → s ≡ spot_of xs ys s.index (get_or places s.index d)))
          (λ s. (s.index < i + 1) × ((d : Point) → s ≡ spot_of xs ys s.index (get_or places s.index d)))
          (λ s g. (let m = g.0 in omega arith, g.1)) spots h.each)
          (omega arith, at);
      all = λ j d m. elim (eq-or-lt_of_le {n = j} {m = i} (omega arith)) [
        | inl e ↦ subst (λ k. Contains (spots ++ spot_of xs ys i p ∷ []) (spot_of xs ys k (get_or places k d))) (sym e)
            (subst (Contains (spots ++ spot_of xs ys i p ∷ [])) (at d) (Contains-push spots (spot_of xs ys i p)))
        | inr e ↦
            Contains-append_left spots (spot_of xs ys i p ∷ []) (spot_of xs ys j (get_or places j d)) (h.all j d e)
      ];
    }

pub spots_sorted : (xs ys : List ℤ) (places : List Point) (n : ℕ) (old new : List Spot) → n ≡ length places
    → IsPermutation old new
    → AreSpotsSoFar xs ys places n old → AreSpots xs ys places new
spots_sorted xs ys places n old new e p h =
    let g = subst (λ m. AreSpotsSoFar xs ys places m old) e h in
    record {
      each = All-permutation
          (λ s. (s.index < length places) × ((d : Point) → s ≡ spot_of xs ys s.index (get_or places s.index d))) old
          new p g.each;
      all = λ i d l. Contains-permutation old new _ p (g.all i d l);
    }

-- spots are fit to be asked
pub asked_are : (xs ys : List ℤ) (places : List Point) (spots : List Spot) (n : ℕ) → n ≡ length places
    → AreSpots xs ys places spots
    → IsNonDecreasingBy (λ s. s.row) spots → AreAsked n spots
asked_are xs ys places spots n e h up = record {
  within = λ k d l. let a = (h.each k d l).0 in omega arith;
  ascending = up;
  one = λ i j l m q.
      let a = (h.each i no_spot l).1 no_place in
      let b = (h.each j no_spot m).1 no_place in
      a ∙ ap (λ k. spot_of xs ys k (get_or places k no_place)) q ∙ sym b;
}

pub rows_are_in : (xs ys : List ℤ) (places : List Point) (spots : List Spot) (n : ℕ) → n ≡ length ys + 1 → Ascending ys
    → AreSpots xs ys places spots
    → All (λ s. s.row < n) spots
rows_are_in xs ys places spots n e up h = λ k d l.
    let s = get_or spots k d in
    let a = ap (λ (q : Spot). q.row) ((h.each k d l).1 no_place) in
    let w = (in_cell ys (get_or places s.index no_place).y up).within in
    omega arith

pub cells_are_in : (xs ys : List ℤ) (places : List Point) (spots : List Spot) (n : ℕ) → n ≡ length xs + 1
    → Ascending xs → AreSpots xs ys places spots
    → All (λ s. s.cell < n) spots
cells_are_in xs ys places spots n e up h = λ k d l.
    let s = get_or spots k d in
    let a = ap (λ (q : Spot). q.cell) ((h.each k d l).1 no_place) in
    let w = (in_cell xs (get_or places s.index no_place).x up).within in
    omega arith

pub tiles_more : (xs ys : List ℤ) (strips : List Strip) (i : ℕ) (d : Strip) (tiles : List Tile) (t : Tile)
    → i < length strips
    → tiles ≡ map (tile_of xs ys) (take i strips) → t ≡ tile_of xs ys (get_or strips i d)
    → tiles ++ t ∷ [] ≡ map (tile_of xs ys) (take (i + 1) strips)
tiles_more xs ys strips i d tiles t l e f =
    rw (e, f, take_more strips i d l) (sym (map-append (tile_of xs ys) (take i strips) (get_or strips i d ∷ [])))
