-- Strips of cells are tiles of squares.
use Rattle.std.proofs.Common.{ℕ, ◌≡◌, ◌+◌, ◌-◌, ◌<◌, ◌≤◌, ◌↔◌, List, map, inl, inr, refl, sym, ap, ◌∙◌, subst, arith}
use Rattle.std.proofs.Common.{length, get_or}
use Rattle.std.specs.Prelude.{ℤ, pos, ◌<ℤ◌, All, Contains}
use Rattle.std.proofs.lemmas.Int.{ints}
use Rattle.std.proofs.lemmas.Bool.{cases_lt}
use Rattle.std.proofs.lemmas.List.{get_or-map, length-map}
use Rattle.std.proofs.lemmas.List.Elements.{All-map, All-weaker, Contains-get_or}
use Rattle.lam_geom.specs.declared.rect.Rect.{Rect}
use Rattle.mask_runs.specs.declared.mask.Mask.{Mask}
use Rattle.mask_runs.specs.declared.run.Run.{Run}
use Rattle.mask_runs.specs.Runs.{IsRun}
use Rattle.mask_runs.specs.Colours.{HasColour}
use Rattle.mask_runs.specs.Laws.{ColoursByLayers}
use Rattle.mask_runs.proofs.Runs.{same_run}
use Rattle.strip_rows.specs.declared.strip.Strip.{Strip}
use Rattle.strip_rows.specs.Strips.{run_of, strip, no_strip, IsStrip, IsBefore, AreStrips}
use Rattle.region_sweep.specs.declared.block.Block.{Block}
use Rattle.mask_tiles.specs.declared.tile.Tile.{Tile}
use Rattle.mask_tiles.specs.Tiles.{IsLongest, IsSpan, IsTile, AreTiles, AreWhole, Before, InTile}
use Rattle.region_sweep.specs.Grid.{Ascending, cell_of, start_of, tile_of, IsFit}
use Rattle.region_sweep.specs.Blocks.{painted, AreStacked}
use Rattle.region_sweep.proofs.Axes.{in_cell, start_is_in, mark_before}
use Rattle.region_sweep.proofs.Blocks.{ByCell, IsCut, cut_left, cut_right, start_cuts, stretch_from_places}
use Rattle.region_sweep.proofs.Blocks.{places_from_stretch}
use Rattle.region_sweep.proofs.Painting.{blank_left, blank_right, blank_below, blank_above}
use Rattle.region_sweep.proofs.Squares.{IsGrid, has_colour, before_mark}
use Rattle.region_sweep.proofs.Stretches.{OfColour, run_stretch, stretch_run, strip_stretch, stretch_strip, HasCell}
use Rattle.region_sweep.proofs.Stretches.{strip_around}

-- blocks of the grid that keep off its edge
pub record IsLaid (xs ys : List ℤ) (mask : Mask) (shapes : List Rect) (blocks : List Block) : Type 0 where
  pub law : ColoursByLayers
  pub grid : IsGrid xs ys mask shapes blocks
  pub stacked : AreStacked mask (length xs + 1) (length ys + 1) blocks

by_columns : (xs ys : List ℤ) (mask : Mask) (shapes : List Rect) (blocks : List Block) (k : ℕ) (y : ℤ)
    → IsLaid xs ys mask shapes blocks
    → ByCell xs (λ x. HasColour shapes mask k x y) (OfColour (painted mask blocks (cell_of ys y)) k)
by_columns xs ys mask shapes blocks k y h = record {
  ascending = h.grid.columns;
  same = λ x. has_colour h.law xs ys mask shapes blocks k x y h.grid;
}

run_between : List ℤ → ℤ → ℤ → ℕ → Run
run_between xs x0 x1 k = record { left = cell_of xs x0; right = cell_of xs x1; colour = k }

by_rows : (xs ys : List ℤ) (mask : Mask) (shapes : List Rect) (blocks : List Block) (k : ℕ) (x0 x1 : ℤ)
    → IsLaid xs ys mask shapes blocks
    → 0 < k → IsCut xs x0 → IsCut xs x1
    → ByCell ys (IsSpan shapes mask k x0 x1) (λ y. IsRun (painted mask blocks y) (run_between xs x0 x1 k))
unfolding run_between
by_rows xs ys mask shapes blocks k x0 x1 h some a b = record {
  ascending = h.grid.rows;
  same = λ y.
      let P = λ (x : ℤ). HasColour shapes mask k x y in
      let D = OfColour (painted mask blocks (cell_of ys y)) k in
      let by = by_columns xs ys mask shapes blocks k y h in (
        λ s. stretch_run (painted mask blocks (cell_of ys y)) (run_between xs x0 x1 k) some
            (stretch_from_places xs P D x0 x1 by s),
        λ r. subst (λ u. IsLongest P u x1) a.start (subst (λ v. IsLongest P (start_of xs (cell_of xs x0)) v) b.start
            (places_from_stretch xs P D (cell_of xs x0) (cell_of xs x1) by a.some (in_cell xs x1 h.grid.columns).within
            (run_stretch (painted mask blocks (cell_of ys y)) (run_between xs x0 x1 k) r))),
      );
}

-- strips have cells, and keep off the guard cells and rows
strip_fits : (xs ys : List ℤ) (mask : Mask) (blocks : List Block) (s : Strip) → ColoursByLayers
    → AreStacked mask (length xs + 1) (length ys + 1) blocks
    → IsStrip (painted mask blocks) s → IsFit xs ys s
strip_fits xs ys mask blocks s law stacked is =
    let tall = is.tall in
    let bottom = is.each s.low (omega arith) is.tall in
    let top = is.each (s.high - 1) (omega arith) (omega arith) in
    let some = bottom.some in
    let wide = bottom.wide in
    record {
      wide = wide;
      tall = tall;
      left = elim (cases_lt 0 s.left) [
        | inl l ↦ l
        | inr l ↦
            let e = bottom.each 0 l (omega arith) in
            let b = blank_left law mask (length xs + 1) (length ys + 1) blocks s.low stacked in
            absurd (omega arith)
      ];
      right = elim (cases_lt (length xs) s.right) [
        | inr l ↦ l
        | inl l ↦
            let e = bottom.each (s.right - 1) (omega arith) (omega arith) in
            let b = blank_right law mask (length xs + 1) (length ys + 1) blocks s.low (s.right - 1) stacked
            (omega arith) in
            absurd (omega arith)
      ];
      low = elim (cases_lt 0 s.low) [
        | inl l ↦ l
        | inr l ↦
            let e = (is.each 0 l (omega arith)).each s.left (omega arith) wide in
            let b = blank_below law mask (length xs + 1) (length ys + 1) blocks s.left stacked in
            absurd (omega arith)
      ];
      high = elim (cases_lt (length ys) s.high) [
        | inr l ↦ l
        | inl l ↦
            let e = top.each s.left (omega arith) wide in
            let b = blank_above law mask (length xs + 1) (length ys + 1) blocks (s.high - 1) s.left stacked
            (omega arith) in
            absurd (omega arith)
      ];
    }

pub strip_within : (xs ys : List ℤ) (mask : Mask) (shapes : List Rect) (blocks : List Block) (s : Strip)
    → IsLaid xs ys mask shapes blocks
    → IsStrip (painted mask blocks) s → IsFit xs ys s
strip_within xs ys mask shapes blocks s h is = strip_fits xs ys mask blocks s h.law h.stacked is

pub tile_from_strip : (xs ys : List ℤ) (mask : Mask) (shapes : List Rect) (blocks : List Block) (s : Strip)
    → IsLaid xs ys mask shapes blocks
    → IsStrip (painted mask blocks) s → IsTile shapes mask (tile_of xs ys s)
unfolding run_between
tile_from_strip xs ys mask shapes blocks s h is =
    let w = strip_within xs ys mask shapes blocks s h is in
    let bottom = is.each s.low (omega arith) is.tall in
    let wide = bottom.wide in
    let right = w.right in
    let x0 = start_of xs s.left in
    let x1 = start_of xs s.right in
    let a = start_cuts xs s.left h.grid.columns w.left (omega arith) in
    let b = start_cuts xs s.right h.grid.columns (let l = w.left in omega arith) w.right in
    let run : run_between xs x0 x1 s.colour ≡ run_of s = same_run _ _
    (start_is_in xs s.left h.grid.columns w.left (omega arith))
    (start_is_in xs s.right h.grid.columns (let l = w.left in omega arith) w.right) refl in
    let by = by_rows xs ys mask shapes blocks s.colour x0 x1 h bottom.some a b in
    record {
      some = bottom.some;
      stack = places_from_stretch ys (IsSpan shapes mask s.colour x0 x1)
          (λ y. IsRun (painted mask blocks y) (run_of s)) s.low s.high
          (subst (λ r. ByCell ys (IsSpan shapes mask s.colour x0 x1) (λ y. IsRun (painted mask blocks y) r)) run by)
          w.low w.high (strip_stretch (painted mask blocks) s is);
    }

strip_of : List ℤ → List ℤ → Tile → Strip
strip_of xs ys t =
    record {
      left = cell_of xs t.x0;
      right = cell_of xs t.x1;
      low = cell_of ys t.y0;
      high = cell_of ys t.y1;
      colour = t.colour;
    }

same_tile : (s t : Tile) → s.x0 ≡ t.x0 → s.y0 ≡ t.y0 → s.x1 ≡ t.x1 → s.y1 ≡ t.y1 → s.colour ≡ t.colour → s ≡ t
same_tile s t a b c d e = λ i. record { x0 = a i; y0 = b i; x1 = c i; y1 = d i; colour = e i }

strip_from_tile : (xs ys : List ℤ) (mask : Mask) (shapes : List Rect) (blocks : List Block) (t : Tile)
    → IsLaid xs ys mask shapes blocks
    → IsTile shapes mask t → IsStrip (painted mask blocks) (strip_of xs ys t) × (tile_of xs ys (strip_of xs ys t) ≡ t)
unfolding strip_of run_between
strip_from_tile xs ys mask shapes blocks t h is =
    let some = is.stack.some in
    let span = is.stack.each t.y0 (omega (arith, ints)) some in
    let P = λ (x : ℤ). HasColour shapes mask t.colour x t.y0 in
    let D = OfColour (painted mask blocks (cell_of ys t.y0)) t.colour in
    let columns = by_columns xs ys mask shapes blocks t.colour t.y0 h in
    let a = cut_left xs P D t.x0 t.x1 columns span in
    let b = cut_right xs P D t.x0 t.x1 columns span in
    let Q = IsSpan shapes mask t.colour t.x0 t.x1 in
    let E = λ (y : ℕ). IsRun (painted mask blocks y) (run_between xs t.x0 t.x1 t.colour) in
    let rows = by_rows xs ys mask shapes blocks t.colour t.x0 t.x1 h is.some a b in
    let c = cut_left ys Q E t.y0 t.y1 rows is.stack in
    let d = cut_right ys Q E t.y0 t.y1 rows is.stack in (
      stretch_strip (painted mask blocks) (strip_of xs ys t) (stretch_from_places ys Q E t.y0 t.y1 rows is.stack),
      same_tile _ t a.start c.start b.start d.start refl,
    )

-- starts rise with their cells
pub starts_rise : (ms : List ℤ) (a b : ℕ) → Ascending ms → 0 < a → b ≤ length ms → a < b
    → start_of ms a <ℤ start_of ms b
starts_rise ms a b up some l m = up (a - 1) (b - 1) (pos 0) (omega arith) (omega arith)

pub strips_fit : (xs ys : List ℤ) (mask : Mask) (blocks : List Block) (strips : List Strip) → ColoursByLayers
    → AreStacked mask (length xs + 1) (length ys + 1) blocks
    → AreStrips (painted mask blocks) strips → All (IsFit xs ys) strips
strips_fit xs ys mask blocks strips law stacked are = All-weaker (IsStrip (painted mask blocks)) (IsFit xs ys)
    (λ s is. strip_fits xs ys mask blocks s law stacked is) strips are.each

tile_at : (xs ys : List ℤ) (strips : List Strip) (n : ℕ) (d : Tile) → n < length strips
    → get_or (map (tile_of xs ys) strips) n d ≡ tile_of xs ys (strip strips n)
tile_at xs ys strips n d l = get_or-map (tile_of xs ys) strips n no_strip d l

before_tiles : (xs ys : List ℤ) (s t : Strip) → Ascending xs → Ascending ys → IsFit xs ys s → IsFit xs ys t
    → s.low < s.high → t.low < t.high
    → s.left < s.right → t.left < t.right → IsBefore s t → Before (tile_of xs ys s) (tile_of xs ys t)
before_tiles xs ys s t upx upy a b tall tall' wide wide' (inl l) =
    inl (starts_rise ys s.low t.low upy a.low (let h = b.high in omega arith) l)
before_tiles xs ys s t upx upy a b tall tall' wide wide' (inr h) =
    inr (ap (start_of ys) h.0, starts_rise xs s.left t.left upx a.left (let r = b.right in omega arith) h.1)

contains_tile : (xs ys : List ℤ) (strips : List Strip) (s : Strip) (t : Tile) → Contains strips s → tile_of xs ys s ≡ t
    → Contains (map (tile_of xs ys) strips) t
contains_tile xs ys strips s t has e = (
  has.0,
  rw length-map has.1,
  get_or-map (tile_of xs ys) strips has.0 s t has.1 ∙ ap (tile_of xs ys) has.2 ∙ e,
)

pub are_tiles : (xs ys : List ℤ) (mask : Mask) (shapes : List Rect) (blocks : List Block) (strips : List Strip)
    → IsLaid xs ys mask shapes blocks
    → AreStrips (painted mask blocks) strips → AreTiles shapes mask (map (tile_of xs ys) strips)
are_tiles xs ys mask shapes blocks strips h are = record {
  each = All-map (IsTile shapes mask) (tile_of xs ys) strips
      (All-weaker (IsStrip (painted mask blocks)) (λ s. IsTile shapes mask (tile_of xs ys s))
      (λ s is. tile_from_strip xs ys mask shapes blocks s h is) strips are.each);
  all = λ t is.
      let g = strip_from_tile xs ys mask shapes blocks t h is in
      let has = are.all (strip_of xs ys t) g.0 in
      contains_tile xs ys strips (strip_of xs ys t) t has g.1;
  ascending = λ i j d l m.
      let m' : j < length strips = simp length-map at m in
      let l' : i < length strips = omega arith in
      let w = strips_fit xs ys mask blocks strips h.law h.stacked are in
      let a = are.each i no_strip l' in
      let b = are.each j no_strip m' in
      let x = a.each (strip strips i).low (omega arith) a.tall in
      let y = b.each (strip strips j).low (omega arith) b.tall in
      rw (tile_at xs ys strips i d l', tile_at xs ys strips j d m')
      (before_tiles xs ys (strip strips i) (strip strips j) h.grid.columns h.grid.rows (w i no_strip l')
      (w j no_strip m') a.tall b.tall x.wide y.wide
      (are.ascending i j no_strip l m'));
}

-- the strip has the cell exactly where its tile has the square
pub in_tile : (xs ys : List ℤ) (s : Strip) (x y : ℤ) → Ascending xs → Ascending ys → IsFit xs ys s → s.left < s.right
    → s.low < s.high
    → HasCell s (cell_of ys y) (cell_of xs x) ↔ InTile (tile_of xs ys s) x y
in_tile xs ys s x y upx upy w wide tall =
    let left = w.left in
    let right = w.right in
    let low = w.low in
    let high = w.high in
    let a = start_is_in xs s.left upx w.left (omega arith) in
    let b = start_is_in xs s.right upx (omega arith) w.right in
    let c = start_is_in ys s.low upy w.low (omega arith) in
    let d = start_is_in ys s.high upy (omega arith) w.high in
    let p = mark_before xs (start_of xs s.left) x upx (Contains-get_or xs (s.left - 1) (pos 0) (omega arith)) in
    let q = before_mark xs (start_of xs s.right) x upx (Contains-get_or xs (s.right - 1) (pos 0) (omega arith)) in
    let u = mark_before ys (start_of ys s.low) y upy (Contains-get_or ys (s.low - 1) (pos 0) (omega arith)) in
    let v = before_mark ys (start_of ys s.high) y upy (Contains-get_or ys (s.high - 1) (pos 0) (omega arith)) in (
      λ h. record {
        left = p.1 (let g = h.left in omega arith);
        right = q.1 (let g = h.right in omega arith);
        bottom = u.1 (let g = h.low in omega arith);
        top = v.1 (let g = h.high in omega arith);
      },
      λ h. record {
        left = let g = p.0 h.left in omega arith;
        right = let g = q.0 h.right in omega arith;
        low = let g = u.0 h.bottom in omega arith;
        high = let g = v.0 h.top in omega arith;
      },
    )

pub are_whole : (xs ys : List ℤ) (mask : Mask) (shapes : List Rect) (blocks : List Block) (strips : List Strip)
    → IsLaid xs ys mask shapes blocks
    → AreStrips (painted mask blocks) strips → AreWhole shapes mask (map (tile_of xs ys) strips)
are_whole xs ys mask shapes blocks strips h are = record {
  tile = λ k x y some has.
      let e = (has_colour h.law xs ys mask shapes blocks k x y h.grid).0 has in
      let cells = length xs + 1 in
      let rows = length ys + 1 in
      let g = strip_around (painted mask blocks) (length xs) (length ys) (cell_of ys y) (cell_of xs x)
      (λ z w l. blank_right h.law mask cells rows blocks z w h.stacked (omega arith))
      (λ z w l. blank_above h.law mask cells rows blocks z w h.stacked (omega arith))
      (omega arith) in
      let run = g.1.each (cell_of ys y) g.2.low g.2.high in
      let w = strip_within xs ys mask shapes blocks g.0 h g.1 in (
        tile_of xs ys g.0,
        contains_tile xs ys strips g.0 (tile_of xs ys g.0) (are.all g.0 g.1) refl,
        sym (run.each (cell_of xs x) g.2.left g.2.right) ∙ e,
        (in_tile xs ys g.0 x y h.grid.columns h.grid.rows w run.wide g.1.tall).0 g.2,
      );
}
