-- The rows up to `below` are swept.
use Rattle.cover_tree.specs.Trees.{cover_of}
use Rattle.region_sweep.proofs.Rowwise.{IsAt}
use Rattle.region_sweep.proofs.rows.Front.climb.Given as goal

abbrev pub invariant-loop-below : goal.invariant-loop-below
invariant-loop-below l =
    IsAt (cover_of l.initial.self.tree).mask l.fn.size.cells l.blocks l.below l.self.tree l.self.kept l.self.strips
    l.raised l.spots l.answered l.found
