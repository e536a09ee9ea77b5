use Rattle.std.proofs.Common.{◌∙◌, ◌++◌, ◌∷◌, [], ℕ, List, ap}
use Rattle.switch_net.specs.Values.{value_at}
use Rattle.node_clusters.specs.Board.{setting_of}
use Rattle.node_clusters.proofs.Giving.{cluster_from}
use Rattle.node_clusters.proofs.give.gather.Goals as goal

pub returns-clause-cluster : goal.returns-clause-cluster
returns-clause-cluster c =
    cluster_from (setting_of c.args.board.now)
    (value_at c.args.values.now) c.args.node c.insert.new.self.members c.grow.new.set.members c.requires.undriven
    (c.insert.ensures.members ∙ ap (λ (xs : List ℕ). xs ++ c.args.node ∷ []) c.clear.ensures.none)
    c.grow.ensures.spreads
