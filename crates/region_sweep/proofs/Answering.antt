-- Numbers of strips as numbers of tiles.
use Rattle.std.proofs.Common.{ℕ, suc, ◌≡◌, ◌<◌, List, [], ◌∷◌, map, Some, None, Option, inl, inr, sym, ap, ◌∙◌, subst}
use Rattle.std.proofs.Common.{arith, length, get_or, take, drop, ◌++◌}
use Rattle.std.specs.Prelude.{ℤ, pos}
use Rattle.std.specs.List.{AllZip}
use Rattle.std.proofs.lemmas.Grind.{common_steps}
use Rattle.std.proofs.lemmas.Bool.{cases_lt}
use Rattle.std.proofs.lemmas.List.{get_or-map, length-map, get_or_default}
use Rattle.std.proofs.lemmas.Option.{slice_get-get_or}
use Rattle.lam_geom.specs.declared.rect.Rect.{Rect}
use Rattle.lam_geom.specs.declared.place.Point.{Point}
use Rattle.mask_runs.specs.declared.mask.Mask.{Mask}
use Rattle.strip_rows.specs.declared.strip.Strip.{Strip}
use Rattle.strip_rows.specs.Strips.{strip, no_strip, IsStrip, AreStrips}
use Rattle.region_sweep.specs.declared.block.Block.{Block}
use Rattle.region_sweep.specs.declared.spot.Spot.{Spot}
use Rattle.mask_tiles.specs.Tiles.{IsTileOf}
use Rattle.region_sweep.specs.Grid.{cell_of, tile_of, spot_of, AreSpots}
use Rattle.region_sweep.specs.Blocks.{painted}
use Rattle.region_sweep.specs.Rows.{Holds, IsAnswer, AreAnswered, spot, no_spot}
use Rattle.region_sweep.proofs.Squares.{has_colour}
use Rattle.region_sweep.proofs.Stretches.{HasCell}
use Rattle.region_sweep.proofs.Tilings.{IsLaid, strip_within, in_tile}

all_zip_from : {A B : Type 0} (R : A → B → Type 0) (us : List A) (vs : List B) (d : A) (e : B) → length us ≡ length vs
    → ((i : ℕ) → i < length us → R (get_or us i d) (get_or vs i e)) → AllZip R us vs
all_zip_from R [] [] d e l h = tt
all_zip_from R [] (v ∷ vs) d e l h = absurd (omega arith)
all_zip_from R (u ∷ us) [] d e l h = absurd (omega arith)
all_zip_from R (u ∷ us) (v ∷ vs) d e l h =
    (h 0 (omega arith), all_zip_from R us vs d e (omega arith) (λ i m. h (suc i) (omega arith)))

-- a list whose places are all written again
pub put_back : {X : Type 0} (xs old : List X) (n : ℕ) → n ≡ length xs → take n (xs ++ drop (length xs) old) ≡ xs
put_back xs old n e = subst (λ m. take m (xs ++ drop (length xs) old) ≡ xs) (sym e) (grind (arith, common_steps))

-- a strip that has the cell of a row where its run is, has it for good
holds_cell : (colour : ℕ → ℕ → ℕ) (s : Strip) (row cell : ℕ) → IsStrip colour s → Holds colour s row cell
    → HasCell s row cell
holds_cell colour s row cell is h = record {
  left = h.left;
  right = h.right;
  low = h.low;
  high = elim (cases_lt row s.high) [
    | inl l ↦ l
    | inr l ↦ absurd (is.above (h.each s.high (let t = is.tall in omega arith) l))
  ];
}

is_tile_of : (xs ys : List ℤ) (mask : Mask) (shapes : List Rect) (blocks : List Block) (strips : List Strip) (i : ℕ)
    (p : Point)
    → IsLaid xs ys mask shapes blocks → AreStrips (painted mask blocks) strips → (answer : Option ℕ)
    → IsAnswer (painted mask blocks) strips (spot_of xs ys i p) answer
    → IsTileOf shapes mask (map (tile_of xs ys) strips) p answer
is_tile_of xs ys mask shapes blocks strips i p h are None a =
    (has_colour h.law xs ys mask shapes blocks 0 p.x p.y h.grid).1 a
is_tile_of xs ys mask shapes blocks strips i p h are (Some n) a =
    let s = strip strips n in
    let is = are.each n no_strip a.0 in
    let run = is.each s.low (omega arith) is.tall in (
      tile_of xs ys s,
      slice_get-get_or (map (tile_of xs ys) strips) n (tile_of xs ys s) (rw length-map a.0)
          ∙ ap (λ t. Some t) (get_or-map (tile_of xs ys) strips n no_strip (tile_of xs ys s) a.0),
      (in_tile xs ys s p.x p.y h.grid.columns h.grid.rows
          (strip_within xs ys mask shapes blocks s h is) run.wide is.tall).0
          (holds_cell (painted mask blocks) s (cell_of ys p.y) (cell_of xs p.x) is a.1),
    )

pub are_found : (xs ys : List ℤ) (mask : Mask) (shapes : List Rect) (blocks : List Block) (strips : List Strip)
    (spots : List Spot)
    (places : List Point) (found : List (Option ℕ)) → IsLaid xs ys mask shapes blocks
    → AreStrips (painted mask blocks) strips
    → AreSpots xs ys places spots → length found ≡ length places
    → AreAnswered (painted mask blocks) strips spots (length spots) found
    → AllZip (IsTileOf shapes mask (map (tile_of xs ys) strips)) places found
are_found xs ys mask shapes blocks strips spots places found h are of_places as_many answered =
    let none : Point = record { x = pos 0; y = pos 0 } in
    all_zip_from (IsTileOf shapes mask (map (tile_of xs ys) strips)) places found none None (sym as_many)
    (λ i l.
    let has = of_places.all i none l in
    let e : spot spots has.0 ≡ spot_of xs ys i (get_or places i none) =
    get_or_default spots has.0 no_spot _ has.1 ∙ has.2 in
    let a = answered.each has.0 has.1 in
    is_tile_of xs ys mask shapes blocks strips i (get_or places i none) h are (get_or found i None)
    (subst (λ s. IsAnswer (painted mask blocks) strips s (get_or found s.index None)) e a))
