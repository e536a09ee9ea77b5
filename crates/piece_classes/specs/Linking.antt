-- Links between pieces, and what joins them.
use Rattle.std.specs.Prelude.{◌≡◌, ◌↔◌, ◌⊎◌, ℕ, ◌<◌, ◌≤◌, ◌==◌, ◌||◌, Bool, true, false, List, [], length, get_or}
use Rattle.std.specs.Prelude.{Contains, Option, Some, slice_get}
use Rattle.lam_geom.specs.declared.layer.Layer.{Layer}
use Rattle.lam_geom.specs.declared.layer.Layer.TheVariants.{ND, NP, NC, NM, NI, NB, NG}
use Rattle.lam_geom.specs.declared.rect.Rect.{Rect}
use Rattle.lam_geom.specs.Chains.{Chain}
use Rattle.lam_geom.specs.Squares.{Square, Adjoin, covered}
use Rattle.mask_tiles.specs.declared.tile.Tile.{Tile}
use Rattle.mask_tiles.specs.declared.swept.Swept.{Swept}
use Rattle.switch_net.specs.Conductors.{Joined, IsChannelSquare}
use Rattle.union_find.specs.declared.pair.Pair.{Pair}
use Rattle.union_find.specs.Leasts.{Paired}
use Rattle.mask_pieces.specs.declared.cut.Cut.{Cut}
use Rattle.mask_pieces.specs.declared.layered.Numbered.{Numbered}
use Rattle.mask_pieces.specs.declared.masks.Masks.{Masks}
use Rattle.mask_pieces.specs.declared.piece.Piece.{Piece}
use Rattle.mask_pieces.specs.Pieces.{conducts_at, HasConductor, HasChannel, AreInside}

-- the new list has those of the old one and those of a kind
pub record Gains (old new : List Pair) (Is : Pair → Type 0) : Type 0 where
  pub each : (l : Pair) → Contains new l ↔ (Contains old l ⊎ Is l)

-- the pieces of two tiles that touch, a pair of the first ones, where both conduct or neither does
pub record IsTouchLink (touching : List Pair) (numbers : List ℕ) (pieces : List Piece) (place : ℕ)
    (l : Pair) : Type 0 where
  pub at : ℕ
  pub before : at < place
  pub pair : Pair
  pub is : slice_get touching at ≡ Some pair
  pub first : l.a ≡ get_or numbers pair.a 0
  pub second : l.b ≡ get_or numbers pair.b 0
  pub alike : conducts_at pieces l.a ≡ conducts_at pieces l.b

-- whether a contact of this colour joins the conductor of the layer
abbrev pub joins : ℕ → Layer → Bool
joins k NM = k == 3 || k == 5 || k == 7
joins k NP = k == 3 || k == 6 || k == 7
joins k ND = k == 5 || k == 6 || k == 7
joins k NC = false
joins k NI = false
joins k NB = false
joins k NG = false

-- two of the three layers, in order
pub data AreTwo : Layer → Layer → Type 0 where
  upper : AreTwo NM NP
  outer : AreTwo NM ND
  lower : AreTwo NP ND

-- the list of the layer
abbrev pub column_of : List (Option ℕ) → List (Option ℕ) → List (Option ℕ) → Layer → List (Option ℕ)
column_of metal polysilicon diffusion NM = metal
column_of metal polysilicon diffusion NP = polysilicon
column_of metal polysilicon diffusion ND = diffusion
column_of metal polysilicon diffusion NC = []
column_of metal polysilicon diffusion NI = []
column_of metal polysilicon diffusion NB = []
column_of metal polysilicon diffusion NG = []

-- both are there
abbrev pub AreBoth : Option ℕ → Option ℕ → Pair → Type 0
AreBoth a b l = (a ≡ Some l.a) × (b ≡ Some l.b)

-- the pieces of two conductors that a contact joins, one of the first ones
pub record IsContactLink (contacts : List Tile) (metal polysilicon diffusion : List (Option ℕ)) (place : ℕ)
    (l : Pair) : Type 0 where
  pub at : ℕ
  pub before : at < place
  pub contact : Tile
  pub is : slice_get contacts at ≡ Some contact
  pub one : Layer
  pub other : Layer
  pub two : AreTwo one other
  pub joins_one : joins contact.colour one ≡ true
  pub joins_other : joins contact.colour other ≡ true
  pub first : slice_get (column_of metal polysilicon diffusion one) at ≡ Some (Some l.a)
  pub second : slice_get (column_of metal polysilicon diffusion other) at ≡ Some (Some l.b)

-- a mask's tiles that touch have pieces, and there is an entry for each contact
pub record CanLink (contacts mask : Swept) (numbered : Numbered) (pieces : List Piece) : Type 0 where
  pub inside : AreInside mask.pairs numbered.numbers pieces
  pub over : length contacts.tiles ≤ length numbered.over

-- a link of two tiles of the mask that touch
abbrev pub IsTouchOf : Swept → Numbered → List Piece → Pair → Type 0
IsTouchOf mask numbered pieces = IsTouchLink mask.pairs numbered.numbers pieces (length mask.pairs)

-- a link of two conductors that a contact joins
abbrev pub IsContactOf : Swept → Cut → Pair → Type 0
IsContactOf contacts cut =
    IsContactLink contacts.tiles cut.metal.over cut.polysilicon.over cut.diffusion.over (length contacts.tiles)

-- these have exactly the links of metal, of polysilicon, of diffusion and of contacts
pub record AreAllLinks (masks : Masks) (cut : Cut) (links : List Pair) : Type 0 where
  pub each : (l : Pair) → Contains links l ↔ (((IsTouchOf masks.metal cut.metal cut.pieces l
      ⊎ IsTouchOf masks.polysilicon cut.polysilicon cut.pieces l)
      ⊎ IsTouchOf masks.diffusion cut.diffusion cut.pieces l)
      ⊎ IsContactOf masks.contacts cut l)

-- pieces are linked by chains of pairs exactly where their squares are joined
pub record AreLinks (shapes : List Rect) (pieces : List Piece) (links : List Pair) : Type 0 where
  pub conductors : (i j : ℕ) (s t : Square) → Joined (covered shapes) s t → HasConductor pieces i s
      → HasConductor pieces j t → Chain (Paired links) i j
  pub channels : (i j : ℕ) (s t : Square) → Adjoin (IsChannelSquare (covered shapes)) s t → HasChannel pieces i s
      → HasChannel pieces j t → Chain (Paired links) i j
  pub conductors_back : (i j : ℕ) (s : Square) → Paired links i j → HasConductor pieces i s
      → (t : Square) × HasConductor pieces j t × Chain (Joined (covered shapes)) s t
  pub channels_back : (i j : ℕ) (s : Square) → Paired links i j → HasChannel pieces i s
      → (t : Square) × HasChannel pieces j t × Chain (Adjoin (IsChannelSquare (covered shapes))) s t
