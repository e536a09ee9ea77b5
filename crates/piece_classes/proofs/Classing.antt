-- What the numbering of classes asks for.
use Rattle.std.proofs.Common.{◌≡◌, ℕ, ◌<◌, ◌≤◌, List, length, map, get_or, sym, ◌∙◌, ap, subst₂, arith}
use Rattle.std.proofs.Common.{true, false}
use Rattle.std.specs.Prelude.{◌++◌, All, Option}
use Rattle.std.proofs.lemmas.List.{length-map, length-append}
use Rattle.std.specs.List.{AllZip}
use Rattle.std.proofs.lemmas.Slice.Zip.{AllZip-long}
use Rattle.lam_geom.specs.declared.place.Point.{Point}
use Rattle.lam_geom.specs.declared.rect.Rect.{Rect}
use Rattle.lam_geom.specs.Squares.{RectanglesAreJoined}
use Rattle.mask_runs.specs.Laws.{OneColour}
use Rattle.mask_runs.specs.declared.mask.Mask.{Mask}
use Rattle.mask_tiles.specs.declared.tile.Tile.{Tile}
use Rattle.mask_tiles.specs.Tiles.{IsTileOf}
use Rattle.union_find.specs.declared.pair.Pair.{Pair}
use Rattle.union_find.specs.Leasts.{AreLeasts}
use Rattle.mask_pieces.specs.declared.piece.Piece.{Piece}
use Rattle.mask_pieces.specs.declared.cut.Cut.{Cut}
use Rattle.mask_pieces.specs.declared.masks.Masks.{Masks}
use Rattle.piece_classes.specs.declared.numbering.Classes.{Classes}
use Rattle.piece_classes.specs.Numbers.{Conducts, AreRoots, AreNumbers}
use Rattle.piece_classes.specs.Linking.{AreAllLinks}
use Rattle.mask_pieces.specs.Columns.{corner_point}
use Rattle.mask_pieces.specs.Masks.{asked, AreMasks}
use Rattle.mask_pieces.specs.CutOf.{IsCutOf}
use Rattle.piece_classes.specs.Classed.{AreClassed}
use Rattle.piece_classes.proofs.Together.{links_inside, below, still, conductors_stay, channels_stay, classed}

-- there is a piece over each contact's first square, or none
pub long_enough : (shapes : List Rect) (mask : Mask) (tiles contacts : List Tile) (places : List Point)
    (found column : List (Option ℕ)) (f : Option ℕ → Option ℕ)
    → AllZip (IsTileOf shapes mask tiles) (asked contacts places) found → column ≡ map f found
    → length contacts ≤ length column
long_enough shapes mask tiles contacts places found column f h e =
    let a = AllZip-long (IsTileOf shapes mask tiles) (asked contacts places) found h in
    let b : length column ≡ length (map f found) = ap length e in
    let c = length-map found f in
    let d = length-append (map corner_point contacts) places in
    let g = length-map contacts corner_point in
    omega arith

pub long_enough_then : (shapes : List Rect) (mask : Mask) (tiles contacts : List Tile) (places more : List Point)
    (found column : List (Option ℕ)) (f : Option ℕ → Option ℕ)
    → AllZip (IsTileOf shapes mask tiles) (asked contacts places ++ more) found → column ≡ map f found
    → length contacts ≤ length column
long_enough_then shapes mask tiles contacts places more found column f h e =
    let a = AllZip-long (IsTileOf shapes mask tiles) (asked contacts places ++ more) found h in
    let b : length column ≡ length (map f found) = ap length e in
    let c = length-map found f in
    let d = length-append (map corner_point contacts) places in
    let k = length-append (asked contacts places) more in
    let g = length-map contacts corner_point in
    omega arith

-- what the numbering asks of the leasts
pub record CanNumber (pieces : List Piece) (least : List ℕ) : Type 0 where
  pub as_many : length least ≡ length pieces
  pub below_ : (k : ℕ) → k < length least → get_or least k 0 ≤ k
  pub still_ : (k : ℕ) → k < length least → get_or least (get_or least k 0) 0 ≡ get_or least k 0
  pub conductors : (k : ℕ) → k < length least → Conducts pieces true k → Conducts pieces true (get_or least k 0)
  pub channels : (k : ℕ) → k < length least → Conducts pieces false k → Conducts pieces false (get_or least k 0)

-- the slices that the code has are these lists
module _ (one : OneColour) (joined : RectanglesAreJoined) (shapes : List Rect) (places : List Point) (masks : Masks)
    (cut : Cut) (links : List Pair)
    (swept : AreMasks shapes places masks.contacts masks.metal masks.polysilicon masks.diffusion)
    (is_cut : IsCutOf masks.metal masks.polysilicon masks.diffusion cut) (all : AreAllLinks masks cut links)
    (ps : List Piece) (ep : ps ≡ cut.pieces)
    (count : ℕ) (ec : count ≡ length ps) (ls : List Pair) (el : ls ≡ links) where
  counted : count ≡ length cut.pieces
  counted = ec ∙ ap length ep

  pub inside_then : All (λ q. (q.a < count) × (q.b < count)) ls
  inside_then =
      subst₂ (λ n xs. All (λ q. (q.a < n) × (q.b < n)) xs) (sym counted) (sym el)
      (links_inside one joined shapes places masks cut links swept is_cut all)

  module _ (least : List ℕ) (leasts : AreLeasts count ls least) where
    leasts_here : AreLeasts (length cut.pieces) links least
    leasts_here = subst₂ (λ n xs. AreLeasts n xs least) counted el leasts

    can_number : CanNumber cut.pieces least
    can_number = record {
      as_many = leasts_here.as_many;
      below_ = below one joined shapes places masks cut links swept is_cut all least leasts_here;
      still_ = still one joined shapes places masks cut links swept is_cut all least leasts_here;
      conductors = conductors_stay one joined shapes places masks cut links swept is_cut all least leasts_here;
      channels = channels_stay one joined shapes places masks cut links swept is_cut all least leasts_here;
    }

    pub number_then : (ns : List ℕ) → ns ≡ least → CanNumber ps ns
    number_then ns en = subst₂ CanNumber (sym ep) (sym en) can_number

    pub classed_then : (ns ms : List ℕ) → ns ≡ least → ms ≡ least → (nodes chans : Classes)
        → AreRoots (Conducts ps true) ns (length ns) nodes.roots
        → AreNumbers (Conducts ps true) ns (length ns) nodes.roots nodes.numbers
        → AreRoots (Conducts ps false) ms (length ms) chans.roots
        → AreNumbers (Conducts ps false) ms (length ms) chans.roots chans.numbers
        → AreClassed shapes cut.pieces nodes chans
    classed_then ns ms en em nodes chans rn nn rc nc =
        classed one joined shapes places masks cut links swept is_cut all least leasts_here nodes chans
        (subst₂ (λ xs ys. AreRoots (Conducts xs true) ys (length ys) nodes.roots) ep en rn)
        (subst₂ (λ xs ys. AreNumbers (Conducts xs true) ys (length ys) nodes.roots nodes.numbers) ep en nn)
        (subst₂ (λ xs ys. AreRoots (Conducts xs false) ys (length ys) chans.roots) ep em rc)
        (subst₂ (λ xs ys. AreNumbers (Conducts xs false) ys (length ys) chans.roots chans.numbers) ep em nc)
