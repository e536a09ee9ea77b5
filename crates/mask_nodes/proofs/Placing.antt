-- The nodes at places, from the pieces that are over them.
use Rattle.std.proofs.Common.{◌≡◌, ℕ, ◌+◌, ◌<◌, ◌≤◌, List, ◌++◌, length, map, take, drop, get_or, refl, sym, ◌∙◌, ap}
use Rattle.std.proofs.Common.{subst, arith, Bool, true, false, cond}
use Rattle.std.specs.Prelude.{All, Option, Some, None, slice_get}
use Rattle.std.specs.Option.{ForSome, option_map}
use Rattle.std.specs.List.{AllZip}
use Rattle.std.proofs.lemmas.Grind.{common_steps}
use Rattle.std.proofs.lemmas.List.{length-map, length-append, get_or-append-add}
use Rattle.std.proofs.lemmas.List.Elements.{All-map, All-weaker}
use Rattle.std.proofs.lemmas.Option.{same_Some, slice_get_within, slice_get-get_or, get_or_from_slice_get}
use Rattle.std.proofs.lemmas.Option.{slice_get-map}
use Rattle.std.proofs.lemmas.Slice.Zip.{AllZip-long}
use Rattle.lam_geom.specs.declared.layer.Layer.{Layer}
use Rattle.lam_geom.specs.declared.place.Point.{Point}
use Rattle.lam_geom.specs.declared.rect.Rect.{Rect}
use Rattle.mask_runs.specs.declared.mask.Mask.{Mask}
use Rattle.mask_tiles.specs.declared.tile.Tile.{Tile}
use Rattle.mask_tiles.specs.declared.swept.Swept.{Swept}
use Rattle.mask_tiles.specs.Tiles.{IsTileOf}
use Rattle.mask_pieces.specs.declared.piece.Piece.{Piece}
use Rattle.piece_classes.specs.declared.numbering.Classes.{Classes}
use Rattle.mask_pieces.specs.Pieces.{AreNumbersOf, conducts_at, over}
use Rattle.mask_pieces.specs.Columns.{corner_point, IsPieceOver, AreOver}
use Rattle.mask_pieces.specs.Masks.{asked}
use Rattle.mask_tiles.specs.Sweeps.{IsSweepOf}
use Rattle.mask_pieces.specs.CutOf.{IsReady}
use Rattle.piece_classes.specs.Classed.{node_squares, AreClassed}
use Rattle.mask_nodes.specs.Drawn.{IsNodeOver, AreNodesOver}
use Rattle.mask_pieces.proofs.Covering.{found_inside, numbers_inside}

pub is_ready : (shapes : List Rect) (mask : Mask) (places : List Point) (s : Swept) → IsSweepOf shapes mask places s
    → IsReady s
is_ready shapes mask places s h =
    record { ascending = h.tiles.ascending; found = found_inside shapes mask s.tiles places s.found h.found }

-- what is over the places is among the pieces
over_inside : (layer : Layer) (tiles : List Tile) (pieces : List Piece) (numbers : List ℕ)
    → AreNumbersOf layer tiles pieces numbers → (o : Option ℕ) → ForSome o (λ n. n < length tiles)
    → ForSome (over numbers pieces o) (λ k. k < length pieces)
over_inside layer tiles pieces numbers h None f k e = absurd (cc)
over_inside layer tiles pieces numbers h (Some n) f k e =
    let l = f n refl in
    let many = h.as_many in
    pick (conducts_at pieces (get_or numbers n 0)) (get_or numbers n 0)
    (numbers_inside layer tiles pieces numbers h n 0 (omega arith)) e
  where
    pick : (b : Bool) (m : ℕ) → m < length pieces → cond b (Some m) None ≡ Some k → k < length pieces
    pick true m l e = subst (λ z. z < length pieces) (same_Some m k e) l
    pick false m l e = absurd (cc)

column_inside : (layer : Layer) (tiles : List Tile) (pieces : List Piece) (numbers : List ℕ)
    (found column : List (Option ℕ)) (count : ℕ) → AreNumbersOf layer tiles pieces numbers
    → All (λ o. ForSome o (λ n. n < length tiles)) found
    → column ≡ map (over numbers pieces) found → count ≡ length pieces → All (λ o. ForSome o (λ k. k < count)) column
column_inside layer tiles pieces numbers found column count h f e ec =
    subst (λ n. All (λ o. ForSome o (λ k. k < n)) column) (sym ec)
    (subst (All (λ o. ForSome o (λ k. k < length pieces))) (sym e)
    (All-map (λ o. ForSome o (λ k. k < length pieces)) (over numbers pieces) found
    (All-weaker (λ o. ForSome o (λ n. n < length tiles))
    (λ o. ForSome (over numbers pieces o) (λ k. k < length pieces))
    (over_inside layer tiles pieces numbers h) found f)))

-- the same of what slices of these show
pub inside_slice : (layer : Layer) (tiles : List Tile) (pieces : List Piece) (numbers : List ℕ)
    (found column slice : List (Option ℕ)) (ns shown : List ℕ) → AreNumbersOf layer tiles pieces numbers
    → All (λ o. ForSome o (λ n. n < length tiles)) found
    → column ≡ map (over numbers pieces) found → length ns ≡ length pieces → slice ≡ column → shown ≡ ns
    → All (λ o. ForSome o (λ k. k < length shown)) slice
inside_slice layer tiles pieces numbers found column slice ns shown h f e many es en =
    subst (λ xs. All (λ o. ForSome o (λ k. k < length shown)) xs) (sym es)
    (column_inside layer tiles pieces numbers found column (length shown) h f e (ap length en ∙ many))

pub slice_long : (slice column : List (Option ℕ)) (contacts : List Tile) (places : List Point) (first count : ℕ)
    → length contacts + length places ≤ length column → slice ≡ column → first ≡ length contacts
    → count ≡ length places → first + count ≤ length slice
slice_long slice column contacts places first count h es ef ec =
    let e : length slice ≡ length column = ap length es in
    omega arith

pub column_long : (shapes : List Rect) (mask : Mask) (tiles contacts : List Tile) (places : List Point)
    (found column : List (Option ℕ)) (f : Option ℕ → Option ℕ)
    → AllZip (IsTileOf shapes mask tiles) (asked contacts places) found → column ≡ map f found
    → length contacts + length places ≤ length column
column_long shapes mask tiles contacts places found column f h e =
    let a = AllZip-long (IsTileOf shapes mask tiles) (asked contacts places) found h in
    let b : length column ≡ length (map f found) = ap length e in
    let c = length-map found f in
    let d = length-append (map corner_point contacts) places in
    let g = length-map contacts corner_point in
    omega arith

pub column_longer : (shapes : List Rect) (mask : Mask) (tiles contacts : List Tile) (places more : List Point)
    (found column : List (Option ℕ)) (f : Option ℕ → Option ℕ)
    → AllZip (IsTileOf shapes mask tiles) (asked contacts places ++ more) found → column ≡ map f found
    → length contacts + length places ≤ length column
column_longer shapes mask tiles contacts places more found column f h e =
    let a = AllZip-long (IsTileOf shapes mask tiles) (asked contacts places ++ more) found h in
    let b : length column ≡ length (map f found) = ap length e in
    let c = length-map found f in
    let d = length-append (map corner_point contacts) places in
    let k = length-append (asked contacts places) more in
    let g = length-map contacts corner_point in
    omega arith

part_at : {X : Type 0} (xs : List X) (first count n : ℕ) (d : X) → n < count → first + count ≤ length xs
    → get_or (take count (drop first xs)) n d ≡ get_or xs (first + n) d
part_at xs first count n d l h = grind (arith, common_steps)

part_length : {X : Type 0} (xs : List X) (first count : ℕ) → first + count ≤ length xs
    → length (take count (drop first xs)) ≡ count
part_length xs first count h = grind (arith, common_steps)

part_get : {X : Type 0} (xs : List X) (first count n : ℕ) (x : X) → n < count → first + count ≤ length xs
    → slice_get xs (first + n) ≡ Some x → slice_get (take count (drop first xs)) n ≡ Some x
part_get xs first count n x l h e =
    let m = part_length xs first count h in
    slice_get-get_or (take count (drop first xs)) n x (omega arith)
    ∙ ap (λ z. Some z) (part_at xs first count n x l h ∙ get_or_from_slice_get xs (first + n) x x e)

after_at : (contacts : List Tile) (places : List Point) (n : ℕ) (p : Point) → slice_get places n ≡ Some p
    → slice_get (asked contacts places) (length contacts + n) ≡ Some p
after_at contacts places n p e =
    let l = slice_get_within places n p e in
    let m = length-map contacts corner_point in
    let a = length-append (map corner_point contacts) places in
    let k : length contacts + n ≡ length (map corner_point contacts) + n = omega arith in
    slice_get-get_or (asked contacts places) (length contacts + n) p (omega arith)
    ∙ ap (λ z. Some z)
    (ap (λ i. get_or (asked contacts places) i p) k ∙ get_or-append-add (map corner_point contacts) places n p
    ∙ get_or_from_slice_get places n p p e)

-- the nodes of the pieces over places
nodes_on : (shapes : List Rect) (pieces : List Piece) (nodes channels : Classes) (layer : Layer) (contacts : List Tile)
    (places : List Point) (column nodes_there : List (Option ℕ)) → AreClassed shapes pieces nodes channels
    → AreOver shapes pieces layer (asked contacts places) column → length contacts + length places ≤ length column
    → nodes_there
    ≡ map (option_map (λ k. get_or nodes.numbers k 0)) (take (length places) (drop (length contacts) column))
    → AreNodesOver shapes (node_squares pieces nodes) layer places nodes_there
nodes_on shapes pieces nodes channels layer contacts places column nodes_there cl over long e = record {
  each = λ n p at.
      let w = over.each (length contacts + n) p (after_at contacts places n p at) in
      let f : Option ℕ → Option ℕ = option_map (λ k. get_or nodes.numbers k 0) in
      let g = part_get column (length contacts) (length places) n w.0 (slice_get_within places n p at) long w.1 in (
        f w.0,
        ap (λ xs. slice_get xs n) e ∙ slice_get-map f (take (length places) (drop (length contacts) column)) n
            ∙ ap (option_map f) g,
        node p w.0 w.2,
      );
}
  where
    node : (p : Point) (o : Option ℕ) → IsPieceOver shapes pieces layer p o
        → IsNodeOver shapes (node_squares pieces nodes) layer p (option_map (λ k. get_or nodes.numbers k 0) o)
    node p None h = h
    node p (Some k) h = cl.node_of k _ h

pub nodes_then : (shapes : List Rect) (pieces : List Piece) (nodes channels : Classes) (layer : Layer)
    (contacts : List Tile) (places : List Point) (column slice nodes_there : List (Option ℕ)) (shown : List ℕ)
    (first count : ℕ) → AreClassed shapes pieces nodes channels
    → AreOver shapes pieces layer (asked contacts places) column → length contacts + length places ≤ length column
    → slice ≡ column → shown ≡ nodes.numbers → first ≡ length contacts → count ≡ length places
    → nodes_there ≡ map (option_map (λ k. get_or shown k 0)) (take count (drop first slice))
    → AreNodesOver shapes (node_squares pieces nodes) layer places nodes_there
nodes_then shapes pieces nodes channels layer contacts places column slice nodes_there shown first count cl over long
    es en ef ec e =
    let e1 : nodes_there ≡ map (option_map (λ k. get_or shown k 0)) (take count (drop first column)) =
    subst (λ z. nodes_there ≡ map (option_map (λ k. get_or shown k 0)) (take count (drop first z))) es e in
    let e2 : nodes_there ≡ map (option_map (λ k. get_or nodes.numbers k 0)) (take count (drop first column)) =
    subst (λ z. nodes_there ≡ map (option_map (λ k. get_or z k 0)) (take count (drop first column))) en e1 in
    let e3 : nodes_there
    ≡ map (option_map (λ k. get_or nodes.numbers k 0)) (take count (drop (length contacts) column)) =
    subst (λ z. nodes_there ≡ map (option_map (λ k. get_or nodes.numbers k 0)) (take count (drop z column))) ef e2 in
    nodes_on shapes pieces nodes channels layer contacts places column nodes_there cl over long
    (subst (λ z. nodes_there
    ≡ map (option_map (λ k. get_or nodes.numbers k 0)) (take z (drop (length contacts) column))) ec e3)
