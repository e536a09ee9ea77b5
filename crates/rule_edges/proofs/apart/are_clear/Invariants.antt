-- The edges so far are clear of each other.
use Rattle.rule_edges.proofs.Clearing.{AreReached}
use Rattle.rule_edges.proofs.apart.are_clear.Given as goal

abbrev pub invariant-loop-edge : goal.invariant-loop-edge
invariant-loop-edge l = AreReached l.edges l.edge-index l.reached
