-- The edges of the rectangles so far.
use Rattle.std.proofs.Common.{take}
use Rattle.rule_edges.specs.Edges.{HasEdges}
use Rattle.rule_edges.proofs.edge.edges_of.Given as goal

abbrev pub invariant-loop-shape : goal.invariant-loop-shape
invariant-loop-shape l = HasEdges l.facing (take l.shape-index l.shapes) l.edges
