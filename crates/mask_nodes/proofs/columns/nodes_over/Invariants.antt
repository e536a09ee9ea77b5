use Rattle.std.proofs.Common.{◌≡◌, map, take, get_or}
use Rattle.std.specs.Option.{option_map}
use Rattle.mask_nodes.proofs.columns.nodes_over.Given as goal

abbrev pub invariant-loop-piece : goal.invariant-loop-piece
invariant-loop-piece l = l.nodes ≡ map (option_map (λ k. get_or l.numbers k 0)) (take l.piece-index l.piece-items)
