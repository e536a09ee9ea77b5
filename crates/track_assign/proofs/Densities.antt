-- Intervals have one density, for all crates above.
use Rattle.std.proofs.Common.{List, ℕ, ◌≡◌, arith}
use Rattle.track_assign.specs.declared.packing.Interval.{Interval}
use Rattle.track_assign.specs.Density.{IsDensity}

-- intervals have one density
pub density_once : (intervals : List Interval) (rows column other place : ℕ) → IsDensity intervals rows column
    → IsDensity intervals other place → rows ≡ other
density_once intervals rows column other place d e =
    let a = d.most place in let b = e.most column in let f = d.reached in let g = e.reached in omega arith
