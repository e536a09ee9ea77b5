-- Blocks of cells, and the colours that they make.
use Rattle.std.specs.Prelude.{◌≡◌, ◌&&◌, ◌||◌, ℕ, ◌<◌, List, [], ◌∷◌, All, Bool, false, true, nat_le, nat_lt}
use Rattle.std.specs.List.Sorted.{IsNonDecreasingBy}
use Rattle.lam_geom.specs.declared.layer.Layer.{Layer}
use Rattle.lam_geom.specs.declared.layer.Layer.TheVariants.{ND, NP, NC, NM, NI, NB, NG}
use Rattle.mask_runs.specs.declared.mask.Layers.{Layers}
use Rattle.mask_runs.specs.declared.mask.Mask.{Mask}
use Rattle.mask_runs.specs.declared.mask.Mask.TheVariants.{Only}
use Rattle.mask_runs.specs.Colours.{uses, colour_of}
use Rattle.region_sweep.specs.declared.block.Block.{Block}

-- whether the block covers that cell of the layer
abbrev pub covers : Block → Layer → ℕ → ℕ → Bool
covers b l y c = uses (Only b.layer) l && nat_le b.left c && nat_lt c b.right && nat_le b.low y && nat_lt y b.high

-- whether some block does
unfoldable pub is_covered : List Block → Layer → ℕ → ℕ → Bool
is_covered [] l y c = false
is_covered (b ∷ bs) l y c = covers b l y c || is_covered bs l y c

-- the layers that cover the cell
abbrev pub layers_over : List Block → ℕ → ℕ → Layers
layers_over blocks y c = record {
  nd = is_covered blocks ND y c;
  np = is_covered blocks NP y c;
  nc = is_covered blocks NC y c;
  nm = is_covered blocks NM y c;
  ni = is_covered blocks NI y c;
  nb = is_covered blocks NB y c;
  ng = is_covered blocks NG y c;
}

-- the colour of cell c in row y
unfoldable pub painted : Mask → List Block → ℕ → ℕ → ℕ
painted mask blocks y c = colour_of mask (layers_over blocks y c)

-- the mask uses the block, which keeps off the first and the last row and cell
pub record IsInside (mask : Mask) (cells rows : ℕ) (b : Block) : Type 0 where
  pub used : uses mask b.layer ≡ true
  pub left : 0 < b.left
  pub right : b.right < cells
  pub low : 0 < b.low
  pub high : b.high < rows

-- such blocks, those first that begin in lower rows
pub record AreStacked (mask : Mask) (cells rows : ℕ) (blocks : List Block) : Type 0 where
  pub each : All (IsInside mask cells rows) blocks
  pub order : IsNonDecreasingBy (λ b. b.low) blocks
