-- The pieces over places, from the tiles that were found there.
use Rattle.std.proofs.Common.{◌≡◌, ℕ, zero, suc, ◌<◌, inl, inr, List, [], ◌∷◌, ◌++◌, length, map}
use Rattle.std.proofs.Common.{get_or, refl, sym, ◌∙◌, ap, subst, arith, true, false, cond}
use Rattle.std.specs.Prelude.{All, Option, Some, None, slice_get}
use Rattle.std.specs.Option.{ForSome, option_map}
use Rattle.std.specs.List.{AllZip}
use Rattle.std.proofs.lemmas.List.{length-map}
use Rattle.std.proofs.lemmas.Option.{same_Some, slice_get_within, slice_get-get_or, get_or_from_slice_get}
use Rattle.std.proofs.lemmas.Option.{slice_get-map}
use Rattle.mp_base.proofs.Zips.{zip_all_right}
use Rattle.mp_base.proofs.Entries.{all_at, get_front}
use Rattle.lam_geom.specs.declared.layer.Layer.{Layer}
use Rattle.lam_geom.specs.declared.layer.Layer.TheVariants.{ND, NP, NM}
use Rattle.lam_geom.specs.declared.place.Point.{Point}
use Rattle.lam_geom.specs.declared.rect.Rect.{Rect}
use Rattle.lam_geom.specs.Squares.{covered}
use Rattle.mask_runs.specs.declared.mask.Mask.{Mask}
use Rattle.mask_runs.specs.declared.mask.Mask.TheVariants.{Only, Diffusion}
use Rattle.mask_tiles.specs.declared.tile.Tile.{Tile}
use Rattle.mask_tiles.specs.Tiles.{IsTile, AreTiles, InTile, IsTileOf}
use Rattle.mask_tiles.specs.Touching.{AreTouching}
use Rattle.mask_tiles.proofs.SeenLayers.{covered_only}
use Rattle.switch_net.specs.Conductors.{ConductsOn}
use Rattle.union_find.specs.declared.pair.Pair.{Pair}
use Rattle.mask_pieces.specs.declared.piece.Part.TheVariants.{Conductor}
use Rattle.mask_pieces.specs.declared.piece.Piece.{Piece}
use Rattle.mask_pieces.specs.Pieces.{no_piece, is_conductor, part_of, piece_of, AreNumbersOf}
use Rattle.mask_pieces.specs.Pieces.{conducts_at, over, AreInside}
use Rattle.mask_pieces.specs.Columns.{corner_point, IsPieceOver, AreOver}
use Rattle.mask_pieces.proofs.Seeing.{on_diffusion}
use Rattle.mask_pieces.proofs.Seeing.OnDiffusion.{none, conductor, plain, implant}
use Rattle.mask_pieces.proofs.CutUp.{tile_colour}

zip_at : {A B : Type 0} (R : A → B → Type 0) (xs : List A) (ys : List B) → AllZip R xs ys → (n : ℕ) (x : A)
    → slice_get xs n ≡ Some x → (y : B) × (slice_get ys n ≡ Some y) × R x y
zip_at R [] ys h n x e = absurd (cc)
zip_at R (a ∷ us) [] h n x e = absurd h
zip_at R (a ∷ us) (b ∷ vs) h zero x e = (b, refl, subst (λ z. R z b) (same_Some a x e) h.0)
zip_at R (a ∷ us) (b ∷ vs) h (suc n) x e = zip_at R us vs h.1 n x e

tile_inside : (shapes : List Rect) (mask : Mask) (tiles : List Tile) (p : Point) (o : Option ℕ)
    → IsTileOf shapes mask tiles p o → ForSome o (λ n. n < length tiles)
tile_inside shapes mask tiles p (Some n) h =
    λ x e. subst (λ m. m < length tiles) (same_Some n x e) (slice_get_within tiles n h.0 h.1)
tile_inside shapes mask tiles p None h = λ x e. absurd (cc)

pub found_inside : (shapes : List Rect) (mask : Mask) (tiles : List Tile) (places : List Point)
    (found : List (Option ℕ)) → AllZip (IsTileOf shapes mask tiles) places found
    → All (λ o. ForSome o (λ n. n < length tiles)) found
found_inside shapes mask tiles places found h =
    zip_all_right (IsTileOf shapes mask tiles) (λ o. ForSome o (λ n. n < length tiles))
    (tile_inside shapes mask tiles) places found h

pub numbers_inside : (layer : Layer) (tiles : List Tile) (pieces : List Piece) (numbers : List ℕ)
    → AreNumbersOf layer tiles pieces numbers → All (λ k. k < length pieces) numbers
numbers_inside layer tiles pieces numbers h n d l =
    let many = h.as_many in
    let none : Tile =
    record {
      x0 = (piece_of layer 0 none0).rect.x0;
      y0 = (piece_of layer 0 none0).rect.y0;
      x1 = (piece_of layer 0 none0).rect.x1;
      y1 = (piece_of layer 0 none0).rect.y1;
      colour = 0;
    } in
    let t : Tile = get_or tiles n none in
    let e : slice_get tiles n ≡ Some t = slice_get-get_or tiles n none (omega arith) in
    subst (λ k. k < length pieces) (same_number numbers n d l)
    (slice_get_within pieces (get_or numbers n 0) (piece_of layer n t) (h.each n t e))
  where
    none0 : Tile
    none0 = record {
      x0 = no_piece.rect.x0;
      y0 = no_piece.rect.y0;
      x1 = no_piece.rect.x1;
      y1 = no_piece.rect.y1;
      colour = 0;
    }

    same_number : (xs : List ℕ) (n d : ℕ) → n < length xs → get_or xs n 0 ≡ get_or xs n d
    same_number [] n d l = absurd (omega arith)
    same_number (x ∷ xs) zero d l = refl
    same_number (x ∷ xs) (suc n) d l = same_number xs n d (omega arith)

pub are_inside : (layer : Layer) (tiles : List Tile) (touching : List Pair) (numbers : List ℕ) (pieces : List Piece)
    → AreTouching tiles touching → AreNumbersOf layer tiles pieces numbers → AreInside touching numbers pieces
are_inside layer tiles touching numbers pieces t h = record {
  tiles = λ n d l.
      let w = t.each n d l in
      let many = h.as_many in
      let a = slice_get_within tiles (get_or touching n d).a w.first w.at_first in
      let b = slice_get_within tiles (get_or touching n d).b w.second w.at_second in
      (omega arith, omega arith);
  pieces_in = numbers_inside layer tiles pieces numbers h;
}

module _ (shapes : List Rect) (pieces : List Piece) (numbers : List ℕ) (tiles : List Tile) where
  over_conductor : (layer : Layer) (n : ℕ) (t : Tile) (p : Point) → AreNumbersOf layer tiles pieces numbers
      → slice_get tiles n ≡ Some t → t.colour ≡ 1 → InTile t p.x p.y
      → IsPieceOver shapes pieces layer p (over numbers pieces (Some n))
  over_conductor layer n t p num e c i =
      let at : slice_get pieces (get_or numbers n 0) ≡ Some (piece_of layer n t) = num.each n t e in
      let part : part_of t.colour ≡ Conductor = ap part_of c in
      let yes : conducts_at pieces (get_or numbers n 0) ≡ true =
      ap (λ (x : Piece). is_conductor x.part)
      (get_or_from_slice_get pieces (get_or numbers n 0) (piece_of layer n t) no_piece at) ∙ ap is_conductor part in
      subst (λ b. IsPieceOver shapes pieces layer p (cond b (Some (get_or numbers n 0)) None)) (sym yes)
      (record {
        piece = piece_of layer n t;
        at = at;
        part = part;
        is = record { same = refl; left = i.left; right = i.right; bottom = i.bottom; top = i.top };
      })

  over_other : (layer : Layer) (n : ℕ) (t : Tile) (p : Point) → AreNumbersOf layer tiles pieces numbers
      → slice_get tiles n ≡ Some t → is_conductor (part_of t.colour) ≡ false
      → ¬ ConductsOn (covered shapes) layer p.x p.y
      → IsPieceOver shapes pieces layer p (over numbers pieces (Some n))
  over_other layer n t p num e c not =
      let at : slice_get pieces (get_or numbers n 0) ≡ Some (piece_of layer n t) = num.each n t e in
      let no_ : conducts_at pieces (get_or numbers n 0) ≡ false =
      ap (λ (x : Piece). is_conductor x.part)
      (get_or_from_slice_get pieces (get_or numbers n 0) (piece_of layer n t) no_piece at) ∙ c in
      subst (λ b. IsPieceOver shapes pieces layer p (cond b (Some (get_or numbers n 0)) None)) (sym no_) not

  over_metal : AreTiles shapes (Only NM) tiles → AreNumbersOf NM tiles pieces numbers → (p : Point) (o : Option ℕ)
      → IsTileOf shapes (Only NM) tiles p o → IsPieceOver shapes pieces NM p (over numbers pieces o)
  over_metal are num p (Some n) h =
      let is = all_at (IsTile shapes (Only NM)) tiles n h.0 are.each h.1 in
      elim (covered_only shapes NM h.0.colour p.x p.y (tile_colour shapes (Only NM) h.0 p.x p.y is h.2)) [
        | inl a ↦ over_conductor NM n h.0 p num h.1 a.1 h.2
        | inr a ↦ let s = is.some in let e = a.1 in absurd (omega arith)
      ]
  over_metal are num p None h =
      elim (covered_only shapes NM 0 p.x p.y h) [ inl a ↦ let e = a.1 in absurd (omega arith) | inr a ↦ a.0 ]

  over_polysilicon : AreTiles shapes (Only NP) tiles → AreNumbersOf NP tiles pieces numbers
      → (p : Point) (o : Option ℕ) → IsTileOf shapes (Only NP) tiles p o
      → IsPieceOver shapes pieces NP p (over numbers pieces o)
  over_polysilicon are num p (Some n) h =
      let is = all_at (IsTile shapes (Only NP)) tiles n h.0 are.each h.1 in
      elim (covered_only shapes NP h.0.colour p.x p.y (tile_colour shapes (Only NP) h.0 p.x p.y is h.2)) [
        | inl a ↦ over_conductor NP n h.0 p num h.1 a.1 h.2
        | inr a ↦ let s = is.some in let e = a.1 in absurd (omega arith)
      ]
  over_polysilicon are num p None h =
      elim (covered_only shapes NP 0 p.x p.y h) [ inl a ↦ let e = a.1 in absurd (omega arith) | inr a ↦ a.0 ]

  over_diffusion : AreTiles shapes Diffusion tiles → AreNumbersOf ND tiles pieces numbers → (p : Point) (o : Option ℕ)
      → IsTileOf shapes Diffusion tiles p o → IsPieceOver shapes pieces ND p (over numbers pieces o)
  over_diffusion are num p (Some n) h =
      let is = all_at (IsTile shapes Diffusion) tiles n h.0 are.each h.1 in
      elim (on_diffusion shapes h.0.colour p.x p.y (tile_colour shapes Diffusion h.0 p.x p.y is h.2)) [
        | none d e ↦ let s = is.some in absurd (omega arith)
        | conductor d m e ↦ over_conductor ND n h.0 p num h.1 e h.2
        | plain d m e ↦ over_other ND n h.0 p num h.1 (ap (λ k. is_conductor (part_of k)) e) (λ c. c.1 d)
        | implant d m e ↦ over_other ND n h.0 p num h.1 (ap (λ k. is_conductor (part_of k)) e) (λ c. c.1 d)
      ]
  over_diffusion are num p None h = elim (on_diffusion shapes 0 p.x p.y h) [
    | none d e ↦ λ c. d c.0
    | conductor d m e ↦ absurd (omega arith)
    | plain d m e ↦ absurd (omega arith)
    | implant d m e ↦ absurd (omega arith)
  ]

  pub are_over : (layer : Layer) (mask : Mask)
      → ((p : Point) (o : Option ℕ) → IsTileOf shapes mask tiles p o
      → IsPieceOver shapes pieces layer p (over numbers pieces o))
      → (places : List Point) (found column : List (Option ℕ))
      → AllZip (IsTileOf shapes mask tiles) places found → column ≡ map (over numbers pieces) found
      → AreOver shapes pieces layer places column
  are_over layer mask f places found column h e = record {
    each = λ n p at.
        let w = zip_at (IsTileOf shapes mask tiles) places found h n p at in (
          over numbers pieces w.0,
          ap (λ xs. slice_get xs n) e ∙ slice_get-map (over numbers pieces) found n
              ∙ ap (option_map (over numbers pieces)) w.1,
          f p w.0 w.2,
        );
  }

  pub metal_over : (places : List Point) (found column : List (Option ℕ)) → AreTiles shapes (Only NM) tiles
      → AreNumbersOf NM tiles pieces numbers → AllZip (IsTileOf shapes (Only NM) tiles) places found
      → column ≡ map (over numbers pieces) found → AreOver shapes pieces NM places column
  metal_over places found column are num h e = are_over NM (Only NM) (over_metal are num) places found column h e

  pub polysilicon_over : (places : List Point) (found column : List (Option ℕ)) → AreTiles shapes (Only NP) tiles
      → AreNumbersOf NP tiles pieces numbers → AllZip (IsTileOf shapes (Only NP) tiles) places found
      → column ≡ map (over numbers pieces) found → AreOver shapes pieces NP places column
  polysilicon_over places found column are num h e =
      are_over NP (Only NP) (over_polysilicon are num) places found column h e

  pub diffusion_over : (places : List Point) (found column : List (Option ℕ)) → AreTiles shapes Diffusion tiles
      → AreNumbersOf ND tiles pieces numbers → AllZip (IsTileOf shapes Diffusion tiles) places found
      → column ≡ map (over numbers pieces) found → AreOver shapes pieces ND places column
  diffusion_over places found column are num h e =
      are_over ND Diffusion (over_diffusion are num) places found column h e

-- the first places of a longer list
pub over_fewer : (shapes : List Rect) (pieces : List Piece) (layer : Layer) (places more : List Point)
    (column : List (Option ℕ)) → AreOver shapes pieces layer (places ++ more) column
    → AreOver shapes pieces layer places column
over_fewer shapes pieces layer places more column h = record {
  each = λ n p e. h.each n p (get_front places more n (slice_get_within places n p e) ∙ e);
}

-- the corners of tiles among places
pub corner_at : (tiles : List Tile) (places : List Point) (n : ℕ) (t : Tile) → slice_get tiles n ≡ Some t
    → slice_get (map corner_point tiles ++ places) n ≡ Some (corner_point t)
corner_at tiles places n t e =
    let l = slice_get_within tiles n t e in
    let m = length-map tiles corner_point in
    get_front (map corner_point tiles) places n (omega arith) ∙ slice_get-map corner_point tiles n
    ∙ ap (option_map corner_point) e
