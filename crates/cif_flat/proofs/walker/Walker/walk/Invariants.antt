use Rattle.cif_flat.specs.Walking.{IsWalking, distance}
use Rattle.cif_flat.proofs.walker.Walker.walk.Given as goal

abbrev pub invariant-loop-level : goal.invariant-loop-level
invariant-loop-level l = IsWalking l.items l.walker l.walker.levels.items

abbrev pub decreases-loop-level : goal.decreases-loop-level
decreases-loop-level l = distance l.walker.count l.walker.levels.items
