use Rattle.std.proofs.Common.{sym, ◌∙◌}
use Rattle.cover_tree.proofs.Nodes.{own_above}
use Rattle.cover_tree.proofs.trees.Trees.own_at.Goals as goal

-- src/trees.rt
pub returns : goal.returns
returns c =
    rw c.node_at.ensures at (c.set.ensures c.args.self.now.further)
    ∙ sym (own_above c.args.self.now c.args.self.now.since c.args.at)
