-- What conducts over places, layer by layer.
use Rattle.std.specs.Prelude.{◌≡◌, ℕ, List, Option, Some, MatchOption, slice_get}
use Rattle.lam_geom.specs.declared.layer.Layer.{Layer}
use Rattle.lam_geom.specs.declared.place.Point.{Point}
use Rattle.lam_geom.specs.declared.rect.Rect.{Rect}
use Rattle.lam_geom.specs.Squares.{Square, covered}
use Rattle.mask_tiles.specs.declared.tile.Tile.{Tile}
use Rattle.switch_net.specs.Conductors.{ConductsOn}
use Rattle.mask_pieces.specs.declared.piece.Piece.{Piece}
use Rattle.mask_pieces.specs.Pieces.{HasConductor}

-- the first square of a tile
abbrev pub corner_point : Tile → Point
corner_point t = record { x = t.x0; y = t.y0 }

-- the square of a layer at a place
abbrev pub square_at : Layer → Point → Square
square_at l p = record { layer = l; x = p.x; y = p.y }

-- the number of the piece that has the conductor of the layer at a place, or none where nothing conducts there
abbrev pub IsPieceOver : List Rect → List Piece → Layer → Point → Option ℕ → Type 0
IsPieceOver shapes pieces l p o =
    MatchOption o (¬ ConductsOn (covered shapes) l p.x p.y) (λ k. HasConductor pieces k (square_at l p))

-- the list has that for each of the places
pub record AreOver (shapes : List Rect) (pieces : List Piece) (l : Layer) (places : List Point)
    (column : List (Option ℕ)) : Type 0 where
  pub each : (n : ℕ) (p : Point) → slice_get places n ≡ Some p
      → (o : Option ℕ) × (slice_get column n ≡ Some o) × IsPieceOver shapes pieces l p o
