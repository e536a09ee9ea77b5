-- What the tiles draw, in lambda from the lower left corner of the tile. A tile of a signal row is 20 wide and 12 high,
-- and one of a pull-up row is 20 wide and 36 high.
use Rattle.std.specs.Prelude.{ℕ, List, [], ◌∷◌, pos}
use Rattle.lam_geom.specs.declared.layer.Layer.{Layer}
use Rattle.lam_geom.specs.declared.layer.Layer.TheVariants.{ND, NP, NC, NM, NI}
use Rattle.lam_geom.specs.declared.rect.Rect.{Rect}
use Rattle.tile_cells.specs.declared.tile.Tile.{Tile}
use Rattle.tile_cells.specs.declared.tile.Tile.TheVariants.{TapL, TapR, Tran, PullUp, Under}

-- a rectangle of a tile, from its lower left corner to its upper right one
pub record Cell : Type 0 where
  pub layer : Layer
  pub x0 : ℕ
  pub y0 : ℕ
  pub x1 : ℕ
  pub y1 : ℕ

abbrev pub cell : Layer → ℕ → ℕ → ℕ → ℕ → Cell
cell l x0 y0 x1 y1 = record { layer = l; x0 = x0; y0 = y0; x1 = x1; y1 = y1 }

abbrev pub cells : Tile → List Cell
-- a cut on the line and on the metal that crosses it
cells TapL = cell NC 3 7 5 9 ∷ []
cells TapR = cell NC 15 7 17 9 ∷ []
-- diffusion from line to line, a gate over it, and its contact with the metal of the row
cells Tran = cell ND 6 2 14 4 ∷ cell NP 9 0 11 6 ∷ cell NP 8 6 12 10 ∷ cell NC 9 7 11 9 ∷ []
-- the foot on the line and its contact with the gate; the gate, and the diffusion of the channel under it; the head on
-- the power rail; the implant
cells PullUp =
    cell ND 2 0 6 6 ∷ cell NC 3 3 5 5 ∷ cell NM 2 2 12 6 ∷ cell NP 8 2 12 8 ∷ cell NC 9 3 11 5
    ∷ cell NP 1 8 12 24 ∷ cell ND 3 6 5 27 ∷ cell ND 2 27 6 31 ∷ cell NC 3 28 5 30 ∷ cell NI 1 6 7 26 ∷ []
-- metal on both sides of the trunk, and polysilicon from the one to the other
cells Under =
    cell NM 0 6 4 10 ∷ cell NM 16 6 20 10 ∷ cell NP 0 6 20 10 ∷ cell NC 1 7 3 9 ∷ cell NC 17 7 19 9 ∷ []

-- the rectangle, where a lambda is one unit
abbrev pub in_lambda : Cell → Rect
in_lambda c = record { layer = c.layer; x0 = pos c.x0; y0 = pos c.y0; x1 = pos c.x1; y1 = pos c.y1 }
