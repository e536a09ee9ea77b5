-- What is known of the rows up to one.
use Rattle.std.specs.Prelude.{◌≡◌, ◌↔◌, ℕ, ◌<◌, ◌≤◌, List, All, Option, Some, None, length, slice_index_or, true}
use Rattle.std.specs.List.Sorted.{IsNonDecreasingBy}
use Rattle.lam_geom.specs.declared.layer.Layer.{Layer}
use Rattle.lam_geom.specs.declared.layer.Layer.TheVariants.{ND}
use Rattle.mask_runs.specs.declared.mask.Mask.{Mask}
use Rattle.mask_runs.specs.Runs.{IsRun}
use Rattle.mask_runs.specs.Colours.{uses}
use Rattle.cover_tree.specs.declared.tree.CoverTree.{CoverTree}
use Rattle.cover_tree.specs.Covers.{Cover, IsBare}
use Rattle.cover_tree.specs.Trees.{cover_of, told_of, row_of}
use Rattle.kept_runs.specs.declared.runs.KeptRuns.{KeptRuns}
use Rattle.kept_runs.specs.Kept.{colours_of, width_of}
use Rattle.strip_rows.specs.declared.rows.StripRows.{StripRows}
use Rattle.strip_rows.specs.Swept.{IsSwept, cells_of}
use Rattle.strip_rows.specs.declared.strip.Strip.{Strip}
use Rattle.strip_rows.specs.declared.strip.Strips.{Strips}
use Rattle.strip_rows.specs.Strips.{run_of, strip, AreStrips}
use Rattle.strip_rows.specs.Touching.{AreTouching}
use Rattle.region_sweep.specs.declared.block.Block.{Block}
use Rattle.region_sweep.specs.Blocks.{painted}
use Rattle.region_sweep.specs.declared.spot.Spot.{Spot}

abbrev pub no_block : Block
no_block = record { layer = ND; left = 0; right = 0; low = 0; high = 0 }

-- the block at this place
abbrev pub block : List Block → ℕ → Block
block blocks k = slice_index_or blocks k no_block

-- the block covers cell c of the layer up to a row above z, if it begins low enough
pub record ReachesOver (b : Block) (l : Layer) (c z : ℕ) : Type 0 where
  pub same : b.layer ≡ l
  pub left : b.left ≤ c
  pub right : c < b.right
  pub high : z < b.high

-- the tree covers what the first `raised` blocks cover, which begin at the row or below
pub record AreRaised (blocks : List Block) (row raised : ℕ) (cover : Cover) : Type 0 where
  pub within : raised ≤ length blocks
  pub begun : (k : ℕ) → k < raised → (block blocks k).low ≤ row
  pub tops : (l : Layer) (c z : ℕ) → (z < cover.top l c) ↔ ((k : ℕ) × (k < raised) × ReachesOver (block blocks k) l c z)

-- the mask uses the blocks, which lie before the last of so many cells and stand in the order of the rows where they
-- begin
pub record AreWithin (mask : Mask) (cells : ℕ) (blocks : List Block) : Type 0 where
  pub used : All (λ b. uses mask b.layer ≡ true) blocks
  pub within : All (λ b. b.right < cells) blocks
  pub order : IsNonDecreasingBy (λ b. b.low) blocks

-- the tree covers what the blocks cover that begin at the row or below, which are the first `raised` ones
pub record IsUpTo (mask : Mask) (cells : ℕ) (blocks : List Block) (row raised : ℕ) (cover : Cover) : Type 0 where
  pub of_mask : cover.mask ≡ mask
  pub wide : cover.cells ≡ cells
  pub are : AreRaised blocks row raised cover
  pub waiting : (k : ℕ) → raised ≤ k → k < length blocks → row < (block blocks k).low

abbrev pub no_spot : Spot
no_spot = record { row = 0; cell = 0; index = 0 }

abbrev pub spot : List Spot → ℕ → Spot
spot spots j = slice_index_or spots j no_spot

-- spots in the order of their rows, of which each index has one
pub record AreAsked (places : ℕ) (spots : List Spot) : Type 0 where
  pub within : All (λ s. s.index < places) spots
  pub ascending : IsNonDecreasingBy (λ s. s.row) spots
  pub one : (i j : ℕ) → i < length spots → j < length spots → (spot spots i).index ≡ (spot spots j).index
      → spot spots i ≡ spot spots j

-- what is kept of row 0, which has no colours, in so many cells
pub record IsBlank (mask : Mask) (cells : ℕ) (tree : CoverTree) (kept : KeptRuns) (strips : StripRows) : Type 0 where
  pub bare : IsBare mask cells (cover_of tree)
  pub row : row_of tree ≡ 0
  pub told : (c : ℕ) → told_of tree c ≡ 0
  pub wide : width_of kept ≡ cells
  pub blank : (c : ℕ) → colours_of kept c ≡ 0
  pub as_wide : cells_of strips ≡ cells
  pub swept : (colour : ℕ → ℕ → ℕ) → ((c : ℕ) → colour 0 c ≡ 0) → IsSwept colour 0 strips

-- the tree has told the row, whose blocks are raised, its runs are kept, and the strips reach up to it
pub record IsSweptTo (mask : Mask) (cells : ℕ) (blocks : List Block) (row raised : ℕ) (tree : CoverTree)
    (kept : KeptRuns) (strips : StripRows) : Type 0 where
  pub up_to : IsUpTo mask cells blocks row raised (cover_of tree)
  pub told : (c : ℕ) → c < cells → painted mask blocks row c ≡ told_of tree c
  pub last : row_of tree ≡ row
  pub wide : width_of kept ≡ cells
  pub same : (c : ℕ) → painted mask blocks row c ≡ colours_of kept c
  pub as_wide : cells_of strips ≡ cells
  pub swept : IsSwept (painted mask blocks) row strips

-- the strips up to a row, and the runs that are kept of that row
pub record IsFront (colour : ℕ → ℕ → ℕ) (row : ℕ) (strips : StripRows) (kept : KeptRuns) : Type 0 where
  pub swept : IsSwept colour row strips
  pub same : (c : ℕ) → colour row c ≡ colours_of kept c

-- the strip has the cell of the row, and each of its rows up to there has its run
pub record Holds (colour : ℕ → ℕ → ℕ) (s : Strip) (row cell : ℕ) : Type 0 where
  pub left : s.left ≤ cell
  pub right : cell < s.right
  pub low : s.low ≤ row
  pub each : (z : ℕ) → s.low ≤ z → z ≤ row → IsRun (colour z) (run_of s)

-- the number of a strip that has the spot, or none where the spot has no colour
abbrev pub IsAnswer : (ℕ → ℕ → ℕ) → List Strip → Spot → Option ℕ → Type 0
IsAnswer colour strips p (Some n) = (n < length strips) × Holds colour (strip strips n) p.row p.cell
IsAnswer colour strips p None = colour p.row p.cell ≡ 0

-- the first `answered` spots have their answers
pub record AreAnswered (colour : ℕ → ℕ → ℕ) (strips : List Strip) (spots : List Spot) (answered : ℕ)
    (found : List (Option ℕ)) : Type 0 where
  pub within : answered ≤ length spots
  pub each : (j : ℕ) → j < answered
      → IsAnswer colour strips (spot spots j) (slice_index_or found (spot spots j).index None)

-- all strips, the pairs that touch, and all answers
pub record IsSweep (colour : ℕ → ℕ → ℕ) (spots : List Spot) (swept : Strips) (found : List (Option ℕ)) : Type 0 where
  pub strips : AreStrips colour swept.strips.items
  pub touching : AreTouching swept.strips.items swept.pairs.items
  pub answers : AreAnswered colour swept.strips.items spots (length spots) found
