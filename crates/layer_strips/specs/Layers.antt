-- The strips of one layer, and pairs as numbers.
use Rattle.std.specs.Prelude.{◌≡◌, ◌≢◌, ℕ, ◌<◌, List, ◌++◌, All, AllPairs, Contains}
use Rattle.lam_geom.specs.declared.layer.Layer.{Layer}
use Rattle.lam_geom.specs.declared.rect.Rect.{Rect}
use Rattle.lam_geom.specs.Squares.{rank}
use Rattle.mask_tiles.specs.declared.tile.Tile.{Tile}
use Rattle.union_find.specs.declared.pair.Pair.{Pair}
use Rattle.layer_strips.specs.Strips.{IsStrip}

-- the list has exactly the strips of the layer, each once
pub record AreStripsOf (shapes : List Rect) (l : Layer) (strips : List Rect) : Type 0 where
  pub each : All (λ r. IsStrip shapes r × (r.layer ≡ l)) strips
  pub all : (r : Rect) → IsStrip shapes r → r.layer ≡ l → Contains strips r
  pub once : AllPairs (λ r q. r ≢ q) strips

-- the strips of the layer were added
pub record AddsLayer (shapes : List Rect) (l : Layer) (old new : List Rect) : Type 0 where
  pub added : List Rect
  pub is : new ≡ old ++ added
  pub are : AreStripsOf shapes l added

abbrev pub rect_of : Layer → Tile → Rect
rect_of l t = record { layer = l; x0 = t.x0; y0 = t.y0; x1 = t.x1; y1 = t.y1 }

-- the list has exactly the strips of the first layers, each once
pub record AreUpTo (shapes : List Rect) (count : ℕ) (strips : List Rect) : Type 0 where
  pub each : All (λ r. IsStrip shapes r × (rank r.layer < count)) strips
  pub all : (r : Rect) → IsStrip shapes r → rank r.layer < count → Contains strips r
  pub once : AllPairs (λ r q. r ≢ q) strips

abbrev pub pair_of : ℕ × ℕ → Pair
pair_of p = record { a = p.0; b = p.1 }
