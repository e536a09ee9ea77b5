-- The pieces that conductors and channels are cut into.
use Rattle.std.specs.Prelude.{◌≡◌, ◌≢◌, ◌⊎◌, ℕ, ◌<◌, if◌then◌else◌, ◌==◌, Bool, true, false, List, length, get_or}
use Rattle.std.specs.Prelude.{All, AllPairs, Contains, Option, Some, None, pos, slice_get, slice_index_or}
use Rattle.lam_geom.specs.declared.layer.Layer.{Layer}
use Rattle.lam_geom.specs.declared.layer.Layer.TheVariants.{ND, NP, NM, NI}
use Rattle.lam_geom.specs.declared.rect.Rect.{Rect}
use Rattle.lam_geom.specs.Squares.{Square, IsIn, Before, covered}
use Rattle.mask_tiles.specs.declared.tile.Tile.{Tile}
use Rattle.switch_net.specs.Conductors.{Conducts, IsChannelSquare}
use Rattle.union_find.specs.declared.pair.Pair.{Pair}
use Rattle.mask_pieces.specs.declared.piece.Part.{Part}
use Rattle.mask_pieces.specs.declared.piece.Part.TheVariants.{Conductor, Plain, Implanted}
use Rattle.mask_pieces.specs.declared.piece.Piece.{Piece}

-- the part that the colour of a tile says
abbrev pub part_of : ℕ → Part
part_of k = if k == 1 then Conductor else if k == 2 then Plain else Implanted

-- whether it is that of a conductor
abbrev pub is_conductor : Part → Bool
is_conductor Conductor = true
is_conductor Plain = false
is_conductor Implanted = false

-- the piece of the tile with this number, on this layer
abbrev pub piece_of : Layer → ℕ → Tile → Piece
piece_of l n t =
    record {
      rect = record { layer = l; x0 = t.x0; y0 = t.y0; x1 = t.x1; y1 = t.y1 };
      tile = n;
      part = part_of t.colour;
    }

-- the first square of a rectangle, on a layer
abbrev pub corner_on : Layer → Rect → Square
corner_on l r = record { layer = l; x = r.x0; y = r.y0 }

-- in the order of their first squares
abbrev pub IsBefore : Piece → Piece → Type 0
IsBefore p q = Before (corner_on p.rect.layer p.rect) (corner_on q.rect.layer q.rect)

-- no layer has pieces of both lists
abbrev pub AreApart : List Piece → List Piece → Type 0
AreApart a b = (p q : Piece) → Contains a p → Contains b q → p.rect.layer ≢ q.rect.layer

-- the pieces are those of the tiles, each at its tile's number
pub record AreTilePieces (layer : Layer) (tiles : List Tile) (pieces : List Piece) : Type 0 where
  pub as_many : length pieces ≡ length tiles
  pub each : (n : ℕ) (t : Tile) → slice_get tiles n ≡ Some t → slice_get pieces n ≡ Some (piece_of layer n t)

-- for each of the first pieces that is on the layer, the number at its tile is that of a piece of the same tile
pub record AreTileNumbers (layer : Layer) (count : ℕ) (pieces : List Piece) (place : ℕ)
    (numbers : List ℕ) : Type 0 where
  pub as_many : length numbers ≡ count
  pub each : (k : ℕ) (p : Piece) → k < place → slice_get pieces k ≡ Some p → p.rect.layer ≡ layer
      → (q : Piece) × (slice_get pieces (get_or numbers p.tile 0) ≡ Some q) × (q.rect.layer ≡ layer) × (q.tile ≡ p.tile)

-- the number at each tile is that of its piece
pub record AreNumbersOf (layer : Layer) (tiles : List Tile) (pieces : List Piece) (numbers : List ℕ) : Type 0 where
  pub as_many : length numbers ≡ length tiles
  pub each : (n : ℕ) (t : Tile) → slice_get tiles n ≡ Some t
      → slice_get pieces (get_or numbers n 0) ≡ Some (piece_of layer n t)

-- the pieces of this layer are those of these tiles
pub record AreOfTiles (layer : Layer) (tiles : List Tile) (pieces : List Piece) : Type 0 where
  pub each : (p : Piece) → Contains pieces p → p.rect.layer ≡ layer
      → (t : Tile) × (slice_get tiles p.tile ≡ Some t) × (p ≡ piece_of layer p.tile t)
  pub all : (n : ℕ) (t : Tile) → slice_get tiles n ≡ Some t → Contains pieces (piece_of layer n t)

-- the pieces are those of the tiles of metal, polysilicon and diffusion, in order
pub record AreCutUp (metal polysilicon diffusion : List Tile) (pieces : List Piece) : Type 0 where
  pub ascending : AllPairs IsBefore pieces
  pub layers : (p : Piece) → Contains pieces p → (p.rect.layer ≡ NM) ⊎ (p.rect.layer ≡ NP) ⊎ (p.rect.layer ≡ ND)
  pub of_metal : AreOfTiles NM metal pieces
  pub of_polysilicon : AreOfTiles NP polysilicon pieces
  pub of_diffusion : AreOfTiles ND diffusion pieces

-- the rectangle on another layer
abbrev pub on : Layer → Rect → Rect
on l r = record r { layer = l }

-- the piece with this number has this conductor
pub record HasConductor (pieces : List Piece) (k : ℕ) (s : Square) : Type 0 where
  pub piece : Piece
  pub at : slice_get pieces k ≡ Some piece
  pub part : piece.part ≡ Conductor
  pub is : IsIn piece.rect s

-- the piece with this number has this square of a channel
pub record HasChannel (pieces : List Piece) (k : ℕ) (s : Square) : Type 0 where
  pub piece : Piece
  pub at : slice_get pieces k ≡ Some piece
  pub part : piece.part ≢ Conductor
  pub is : IsIn (on NP piece.rect) s

-- a piece that stands where a list has none
abbrev pub no_piece : Piece
no_piece =
    record { rect = record { layer = ND; x0 = pos 0; y0 = pos 0; x1 = pos 0; y1 = pos 0 }; tile = 0; part = Conductor }

-- the first square of the piece with this number, as a conductor and as a square of a channel
abbrev pub first_conductor : List Piece → ℕ → Square
first_conductor pieces k = let p = slice_index_or pieces k no_piece in corner_on p.rect.layer p.rect

abbrev pub first_channel : List Piece → ℕ → Square
first_channel pieces k = let p = slice_index_or pieces k no_piece in corner_on NP p.rect

-- the pieces have exactly the conductors and the squares of channels, each in one piece
pub record ArePieces (shapes : List Rect) (pieces : List Piece) : Type 0 where
  pub conductor : (s : Square) → Conducts (covered shapes) s → (k : ℕ) × HasConductor pieces k s
  pub conducts : (k : ℕ) (s : Square) → HasConductor pieces k s → Conducts (covered shapes) s
  pub one_conductor : (i j : ℕ) (s : Square) → HasConductor pieces i s → HasConductor pieces j s → i ≡ j
  pub channel : (s : Square) → IsChannelSquare (covered shapes) s → (k : ℕ) × HasChannel pieces k s
  pub channels : (k : ℕ) (s : Square) → HasChannel pieces k s → IsChannelSquare (covered shapes) s
  pub one_channel : (i j : ℕ) (s : Square) → HasChannel pieces i s → HasChannel pieces j s → i ≡ j
  pub plain : (k : ℕ) (s : Square) → (h : HasChannel pieces k s) → h.piece.part ≡ Plain → ¬ covered shapes NI s.x s.y
  pub implanted : (k : ℕ) (s : Square) → (h : HasChannel pieces k s) → h.piece.part ≡ Implanted
      → covered shapes NI s.x s.y

-- whether the piece with this number conducts
abbrev pub conducts_at : List Piece → ℕ → Bool
conducts_at pieces k = is_conductor (get_or pieces k no_piece).part

-- the piece of a tile, if it conducts
abbrev pub over : List ℕ → List Piece → Option ℕ → Option ℕ
over numbers pieces None = None
over numbers pieces (Some n) = if conducts_at pieces (get_or numbers n 0) then Some (get_or numbers n 0) else None

-- pairs are of tiles that have numbers, and these are numbers of pieces
pub record AreInside (touching : List Pair) (numbers : List ℕ) (pieces : List Piece) : Type 0 where
  pub tiles : All (λ p. (p.a < length numbers) × (p.b < length numbers)) touching
  pub pieces_in : All (λ k. k < length pieces) numbers
