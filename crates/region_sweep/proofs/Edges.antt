-- Strips that share an edge are tiles that do.
use Rattle.std.proofs.Common.{ℕ, ◌≡◌, ◌<◌, ◌≤◌, ◌⊎◌, ◌↔◌, List, map, Some, Option, inl, inr, refl, sym, ap, ◌∙◌, subst}
use Rattle.std.proofs.Common.{arith, length, eq-or-lt_of_le}
use Rattle.std.specs.Prelude.{ℤ, pos, negsuc, ◌+ℤ◌, ◌≤ℤ◌, ◌<ℤ◌, slice_get}
use Rattle.std.proofs.lemmas.Int.{ints, by_lt_z}
use Rattle.std.proofs.lemmas.Bool.{cases_lt}
use Rattle.std.proofs.lemmas.List.{get_or-map, length-map}
use Rattle.std.proofs.lemmas.Option.{slice_get-get_or, slice_get_cases}
use Rattle.std.proofs.lemmas.List.Elements.{All-weaker}
use Rattle.lam_geom.specs.declared.rect.Rect.{Rect}
use Rattle.mask_runs.specs.declared.mask.Mask.{Mask}
use Rattle.union_find.specs.declared.pair.Pair.{Pair}
use Rattle.strip_rows.specs.declared.strip.Strip.{Strip}
use Rattle.strip_rows.specs.Strips.{strip, no_strip, AreStrips}
use Rattle.strip_rows.specs.Touching as cells
use Rattle.strip_rows.specs.Touching.Touch.{beside, upon}
use Rattle.region_sweep.specs.declared.block.Block.{Block}
use Rattle.mask_tiles.specs.declared.tile.Tile.{Tile}
use Rattle.mask_tiles.specs.Tiles.{InTile}
use Rattle.mask_tiles.specs.Touching.{Touch, TouchAt, AreTouching}
use Rattle.region_sweep.specs.Grid.{Ascending, cell_of, start_of, tile_of, IsFit}
use Rattle.region_sweep.specs.Blocks.{painted}
use Rattle.region_sweep.proofs.Axes.{start_is_in}
use Rattle.region_sweep.proofs.Stretches.{one_strip}
use Rattle.region_sweep.proofs.Tilings.{IsLaid, strip_within, starts_rise, in_tile}

-- the tile has squares
record Fills (t : Tile) : Type 0 where
  wide : t.x0 <ℤ t.x1
  tall : t.y0 <ℤ t.y1

-- an edge of the one lies on an edge of the other
data Meet (s t : Tile) : Type 0 where
  sides : (s.x1 ≡ t.x0) ⊎ (t.x1 ≡ s.x0) → s.y0 <ℤ t.y1 → t.y0 <ℤ s.y1 → Meet s t
  ends : (s.y1 ≡ t.y0) ⊎ (t.y1 ≡ s.y0) → s.x0 <ℤ t.x1 → t.x0 <ℤ s.x1 → Meet s t

-- a place that two spans have
common : (a b c d : ℤ) → a <ℤ b → c <ℤ d → a <ℤ d → c <ℤ b → (z : ℤ) × (a ≤ℤ z) × (z <ℤ b) × (c ≤ℤ z) × (z <ℤ d)
common a b c d p q r s = by_lt_z a c
    (λ l. (c, omega (arith, ints), s, omega (arith, ints), q))
    (λ l. (a, omega (arith, ints), p, l, r))

touch_from_meet : (s t : Tile) → Fills s → Fills t → Meet s t → Touch s t
touch_from_meet s t f g (sides e p q) =
    let a = f.wide in
    let b = g.wide in
    let z = common s.y0 s.y1 t.y0 t.y1 f.tall g.tall p q in
    elim e [
      | inl x ↦ record {
        x = t.x0 +ℤ negsuc 0;
        y = z.0;
        u = t.x0;
        v = z.0;
        in_first = record { left = omega (arith, ints); right = omega (arith, ints); bottom = z.1; top = z.2 };
        in_second = record { left = omega (arith, ints); right = omega (arith, ints); bottom = z.3; top = z.4 };
        beside = inl (refl, inl (omega (arith, ints)));
      }
      | inr x ↦ record {
        x = s.x0;
        y = z.0;
        u = s.x0 +ℤ negsuc 0;
        v = z.0;
        in_first = record { left = omega (arith, ints); right = omega (arith, ints); bottom = z.1; top = z.2 };
        in_second = record { left = omega (arith, ints); right = omega (arith, ints); bottom = z.3; top = z.4 };
        beside = inl (refl, inr (omega (arith, ints)));
      }
    ]
touch_from_meet s t f g (ends e p q) =
    let a = f.tall in
    let b = g.tall in
    let z = common s.x0 s.x1 t.x0 t.x1 f.wide g.wide p q in
    elim e [
      | inl x ↦ record {
        x = z.0;
        y = t.y0 +ℤ negsuc 0;
        u = z.0;
        v = t.y0;
        in_first = record { left = z.1; right = z.2; bottom = omega (arith, ints); top = omega (arith, ints) };
        in_second = record { left = z.3; right = z.4; bottom = omega (arith, ints); top = omega (arith, ints) };
        beside = inr (refl, inl (omega (arith, ints)));
      }
      | inr x ↦ record {
        x = z.0;
        y = s.y0;
        u = z.0;
        v = s.y0 +ℤ negsuc 0;
        in_first = record { left = z.1; right = z.2; bottom = omega (arith, ints); top = omega (arith, ints) };
        in_second = record { left = z.3; right = z.4; bottom = omega (arith, ints); top = omega (arith, ints) };
        beside = inr (refl, inr (omega (arith, ints)));
      }
    ]

-- where a square of s is right before one of t, either s ends there and t begins, or they have a common square
edge : (a b c d z w : ℤ) → a ≤ℤ z → z <ℤ b → c ≤ℤ w → w <ℤ d → w ≡ z +ℤ pos 1 → (b ≡ c) ⊎ (w <ℤ b) ⊎ (c ≤ℤ z)
edge a b c d z w p q r s e =
    by_lt_z w b (λ l. inr (inl l)) (λ l. by_lt_z z c (λ m. inl (omega (arith, ints))) (λ m. inr (inr m)))

meet_from_touch : (s t : Tile) → ((x y : ℤ) → InTile s x y → InTile t x y → ⊥) → Touch s t → Meet s t
meet_from_touch s t apart h =
    let i = h.in_first in
    let j = h.in_second in
    elim h.beside [
      | inl (e, inl f) ↦ elim (edge s.x0 s.x1 t.x0 t.x1 h.x h.u i.left i.right j.left j.right f) [
        | inl q ↦
            sides (inl q) (let a = i.bottom in let b = j.top in omega (arith, ints))
            (let a = j.bottom in let b = i.top in omega (arith, ints))
        | inr (inl l) ↦ absurd (apart h.u h.v
            (record {
              left = let a = i.left in omega (arith, ints);
              right = l;
              bottom = let a = i.bottom in
                  omega (arith, ints);
              top = let a = i.top in omega (arith, ints);
            }) j)
        | inr (inr l) ↦ absurd (apart h.x h.y i
            (record {
              left = l;
              right = let a = j.right in omega (arith, ints);
              bottom = let a = j.bottom in
                  omega (arith, ints);
              top = let a = j.top in omega (arith, ints);
            }))
      ]
      | inl (e, inr f) ↦ elim (edge t.x0 t.x1 s.x0 s.x1 h.u h.x j.left j.right i.left i.right f) [
        | inl q ↦
            sides (inr q) (let a = i.bottom in let b = j.top in omega (arith, ints))
            (let a = j.bottom in let b = i.top in omega (arith, ints))
        | inr (inl l) ↦ absurd (apart h.x h.y i
            (record {
              left = let a = j.left in omega (arith, ints);
              right = l;
              bottom = let a = j.bottom in
                  omega (arith, ints);
              top = let a = j.top in omega (arith, ints);
            }))
        | inr (inr l) ↦ absurd (apart h.u h.v
            (record {
              left = l;
              right = let a = i.right in omega (arith, ints);
              bottom = let a = i.bottom in
                  omega (arith, ints);
              top = let a = i.top in omega (arith, ints);
            }) j)
      ]
      | inr (e, inl f) ↦ elim (edge s.y0 s.y1 t.y0 t.y1 h.y h.v i.bottom i.top j.bottom j.top f) [
        | inl q ↦
            ends (inl q) (let a = i.left in let b = j.right in omega (arith, ints))
            (let a = j.left in let b = i.right in omega (arith, ints))
        | inr (inl l) ↦ absurd (apart h.u h.v
            (record {
              left = let a = i.left in omega (arith, ints);
              right = let a = i.right in
                  omega (arith, ints);
              bottom = let a = i.bottom in omega (arith, ints);
              top = l;
            }) j)
        | inr (inr l) ↦ absurd (apart h.x h.y i
            (record {
              left = let a = j.left in omega (arith, ints);
              right = let a = j.right in
                  omega (arith, ints);
              bottom = l;
              top = let a = j.top in omega (arith, ints);
            }))
      ]
      | inr (e, inr f) ↦ elim (edge t.y0 t.y1 s.y0 s.y1 h.v h.y j.bottom j.top i.bottom i.top f) [
        | inl q ↦
            ends (inr q) (let a = i.left in let b = j.right in omega (arith, ints))
            (let a = j.left in let b = i.right in omega (arith, ints))
        | inr (inl l) ↦ absurd (apart h.x h.y i
            (record {
              left = let a = j.left in omega (arith, ints);
              right = let a = j.right in
                  omega (arith, ints);
              bottom = let a = j.bottom in omega (arith, ints);
              top = l;
            }))
        | inr (inr l) ↦ absurd (apart h.u h.v
            (record {
              left = let a = i.left in omega (arith, ints);
              right = let a = i.right in
                  omega (arith, ints);
              bottom = l;
              top = let a = i.top in omega (arith, ints);
            }) j)
      ]
    ]

fills : (xs ys : List ℤ) (s : Strip) → Ascending xs → Ascending ys → IsFit xs ys s → Fills (tile_of xs ys s)
fills xs ys s upx upy f = record {
  wide = starts_rise xs s.left s.right upx f.left f.right f.wide;
  tall = starts_rise ys s.low s.high upy f.low f.high f.tall;
}

starts_are_one : (ms : List ℤ) (a b : ℕ) → Ascending ms → 0 < a → a ≤ length ms → 0 < b → b ≤ length ms
    → start_of ms a ≡ start_of ms b → a ≡ b
starts_are_one ms a b up p q r s e = sym (start_is_in ms a up p q) ∙ ap (cell_of ms) e ∙ start_is_in ms b up r s

starts_fall : (ms : List ℤ) (a b : ℕ) → Ascending ms → 0 < b → a ≤ length ms → start_of ms a <ℤ start_of ms b → a < b
starts_fall ms a b up some l m = elim (cases_lt a b) [
  | inl h ↦ h
  | inr h ↦ elim (eq-or-lt_of_le h) [
    | inl e ↦ let q = ap (start_of ms) e in absurd (omega (arith, ints))
    | inr k ↦ let r = starts_rise ms b a up some l k in absurd (omega (arith, ints))
  ]
]

meet_from_cells : (xs ys : List ℤ) (s t : Strip) → Ascending xs → Ascending ys → IsFit xs ys s → IsFit xs ys t
    → cells.Touch s t
    → Meet (tile_of xs ys s) (tile_of xs ys t)
meet_from_cells xs ys s t upx upy f g (beside e p q) = sides
    (elim e [ inl h ↦ inl (ap (start_of xs) h) | inr h ↦ inr (ap (start_of xs) h) ])
    (starts_rise ys s.low t.high upy f.low g.high p)
    (starts_rise ys t.low s.high upy g.low f.high q)
meet_from_cells xs ys s t upx upy f g (upon e p q) = ends
    (elim e [ inl h ↦ inl (ap (start_of ys) h) | inr h ↦ inr (ap (start_of ys) h) ])
    (starts_rise xs s.left t.right upx f.left g.right p)
    (starts_rise xs t.left s.right upx g.left f.right q)

cells_from_meet : (xs ys : List ℤ) (s t : Strip) → Ascending xs → Ascending ys → IsFit xs ys s → IsFit xs ys t
    → Meet (tile_of xs ys s) (tile_of xs ys t) → cells.Touch s t
cells_from_meet xs ys s t upx upy f g (sides e p q) =
    let a = f in
    let b = g in
    beside
    (elim e [
      | inl h ↦
          inl (starts_are_one xs s.right t.left upx (let l = a.left in let w = f.wide in omega arith) a.right b.left
          (let l = b.right in let w = g.wide in omega arith) h)
      | inr h ↦
          inr (starts_are_one xs t.right s.left upx (let l = b.left in let w = g.wide in omega arith) b.right a.left
          (let l = a.right in let w = f.wide in omega arith) h)
    ])
    (starts_fall ys s.low t.high upy (let l = b.low in let w = g.tall in omega arith)
    (let l = a.high in let w = f.tall in omega arith) p)
    (starts_fall ys t.low s.high upy (let l = a.low in let w = f.tall in omega arith)
    (let l = b.high in let w = g.tall in omega arith) q)
cells_from_meet xs ys s t upx upy f g (ends e p q) =
    let a = f in
    let b = g in
    upon
    (elim e [
      | inl h ↦
          inl (starts_are_one ys s.high t.low upy (let l = a.low in let w = f.tall in omega arith) a.high b.low
          (let l = b.high in let w = g.tall in omega arith) h)
      | inr h ↦
          inr (starts_are_one ys t.high s.low upy (let l = b.low in let w = g.tall in omega arith) b.high a.low
          (let l = a.high in let w = f.tall in omega arith) h)
    ])
    (starts_fall xs s.left t.right upx (let l = b.left in let w = g.wide in omega arith)
    (let l = a.right in let w = f.wide in omega arith) p)
    (starts_fall xs t.left s.right upx (let l = a.left in let w = f.wide in omega arith)
    (let l = b.right in let w = g.wide in omega arith) q)

-- different strips have no common square
strips_apart : (xs ys : List ℤ) (mask : Mask) (shapes : List Rect) (blocks : List Block) (strips : List Strip)
    (a b : ℕ) → IsLaid xs ys mask shapes blocks
    → AreStrips (painted mask blocks) strips → a < b → b < length strips → (x y : ℤ)
    → InTile (tile_of xs ys (strip strips a)) x y → InTile (tile_of xs ys (strip strips b)) x y → ⊥
strips_apart xs ys mask shapes blocks strips a b h are l m x y i j =
    let s = strip strips a in
    let t = strip strips b in
    let p = are.each a no_strip (omega arith) in
    let q = are.each b no_strip m in
    let f = strip_within xs ys mask shapes blocks s h p in
    let g = strip_within xs ys mask shapes blocks t h q in
    let e = one_strip (painted mask blocks) s t (cell_of ys y) (cell_of xs x) p q
    ((in_tile xs ys s x y h.grid.columns h.grid.rows f f.wide f.tall).1 i)
    ((in_tile xs ys t x y h.grid.columns h.grid.rows g g.wide g.tall).1 j) in
    let low = ap (λ u. u.low) e in
    let left = ap (λ u. u.left) e in
    elim (are.ascending a b no_strip l m) [ inl k ↦ omega arith | inr k ↦ let w = k.1 in omega arith ]

tile_there : (xs ys : List ℤ) (strips : List Strip) (n : ℕ) → n < length strips
    → slice_get (map (tile_of xs ys) strips) n ≡ Some (tile_of xs ys (strip strips n))
tile_there xs ys strips n l =
    slice_get-get_or (map (tile_of xs ys) strips) n (tile_of xs ys (strip strips n)) (rw length-map l)
    ∙ ap (λ t. Some t) (get_or-map (tile_of xs ys) strips n no_strip (tile_of xs ys (strip strips n)) l)

there : (tiles : List Tile) (n : ℕ) (t : Tile) → slice_get tiles n ≡ Some t → n < length tiles
there tiles n t e = elim (slice_get_cases tiles n).1 [ inl h ↦ h.1 | inr h ↦ let m = h.1 in absurd (cc) ]

some_tile : (s t : Tile) → ◌≡◌ {A = Option Tile} (Some s) (Some t) → s ≡ t
some_tile s t e = cc

touch_at : (xs ys : List ℤ) (mask : Mask) (shapes : List Rect) (blocks : List Block) (strips : List Strip) (p : Pair)
    → IsLaid xs ys mask shapes blocks
    → AreStrips (painted mask blocks) strips → cells.IsTouching strips p ↔ TouchAt (map (tile_of xs ys) strips) p.a p.b
touch_at xs ys mask shapes blocks strips p h are =
    let fit =
    λ (n : ℕ) (l : n < length strips). strip_within xs ys mask shapes blocks (strip strips n) h
    (are.each n no_strip l) in
    let tile = λ (n : ℕ). tile_of xs ys (strip strips n) in
    let upx = h.grid.columns in
    let upy = h.grid.rows in (
      λ t.
          let o = t.ordered in
          let w = t.within in
          let f = fit p.a (omega arith) in
          let g = fit p.b w in
          record {
            order = o;
            first = tile p.a;
            second = tile p.b;
            at_first = tile_there xs ys strips p.a (omega arith);
            at_second = tile_there xs ys strips p.b w;
            touch = touch_from_meet (tile p.a) (tile p.b) (fills xs ys (strip strips p.a) upx upy f)
                (fills xs ys (strip strips p.b) upx upy g)
                (meet_from_cells xs ys (strip strips p.a) (strip strips p.b) upx upy f g t.touch);
          },
      λ t.
          let o = t.order in
          let w : p.b < length strips =
          simp length-map at (there (map (tile_of xs ys) strips) p.b t.second t.at_second) in
          let v : p.a < length strips = omega arith in
          let a : t.first ≡ tile p.a = some_tile t.first (tile p.a) (sym t.at_first ∙ tile_there xs ys strips p.a v) in
          let b : t.second ≡ tile p.b =
          some_tile t.second (tile p.b) (sym t.at_second ∙ tile_there xs ys strips p.b w) in
          let touch : Touch (tile p.a) (tile p.b) =
          subst (λ u. Touch u (tile p.b)) a (subst (λ u. Touch t.first u) b t.touch) in
          record {
            ordered = o;
            within = w;
            touch = cells_from_meet xs ys (strip strips p.a) (strip strips p.b) upx upy (fit p.a v) (fit p.b w)
                (meet_from_touch (tile p.a) (tile p.b)
                (strips_apart xs ys mask shapes blocks strips p.a p.b h are o w) touch);
          },
    )

pub are_touching : (xs ys : List ℤ) (mask : Mask) (shapes : List Rect) (blocks : List Block) (strips : List Strip)
    (pairs : List Pair)
    → IsLaid xs ys mask shapes blocks → AreStrips (painted mask blocks) strips → cells.AreTouching strips pairs
    → AreTouching (map (tile_of xs ys) strips) pairs
are_touching xs ys mask shapes blocks strips pairs h are t = record {
  each = All-weaker (cells.IsTouching strips) (λ p. TouchAt (map (tile_of xs ys) strips) p.a p.b)
      (λ p. (touch_at xs ys mask shapes blocks strips p h are).0) pairs t.each;
  once = t.once;
  all = λ p u. t.all p ((touch_at xs ys mask shapes blocks strips p h are).1 u);
}
