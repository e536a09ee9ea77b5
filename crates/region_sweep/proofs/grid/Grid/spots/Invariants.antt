-- The spots of the places so far.
use Rattle.region_sweep.proofs.Gridding.{AreSpotsSoFar}
use Rattle.region_sweep.proofs.grid.Grid.spots.Given as goal

abbrev pub invariant-loop-index : goal.invariant-loop-index
invariant-loop-index l = AreSpotsSoFar l.self.columns.marks.items l.self.rows.marks.items l.places l.index l.spots
