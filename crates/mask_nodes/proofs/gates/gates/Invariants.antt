use Rattle.std.proofs.Common.{◌≡◌, map, take}
use Rattle.mask_nodes.specs.Ends.{gate_of}
use Rattle.mask_nodes.proofs.gates.gates.Given as goal

abbrev pub invariant-loop-root : goal.invariant-loop-root
invariant-loop-root l = l.gates ≡ map (gate_of l.first l.over l.pieces l.nodes) (take l.root-index l.roots)
