-- The faults of a file that holds masks.
use Rattle.std.specs.Prelude.{ℕ, List, Option}
use Rattle.std.specs.FinMap.{get}
use Rattle.outside.specs.Outside.{Files}
use Rattle.mask_files.specs.declared.limits.TheConstants.{MASK_LIMIT}
use Rattle.mask_net.specs.Masks.{OfDrawing, OfMask}
use Rattle.outcome.specs.Order.{Fault, OfFile}

abbrev pub MaskFault : List ℕ → Files → Option Fault → Type 0
MaskFault name files = OfFile MASK_LIMIT OfMask name (get files name)

-- those of a file whose drawing alone is looked at
abbrev pub DrawingFault : List ℕ → Files → Option Fault → Type 0
DrawingFault name files = OfFile MASK_LIMIT OfDrawing name (get files name)
