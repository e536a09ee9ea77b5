use Rattle.std.proofs.Common.{sym}
use Rattle.cover_tree.proofs.Nodes.{told_above}
use Rattle.cover_tree.proofs.trees.Trees.told_at.Goals as goal

-- src/trees.rt
pub returns : goal.returns
returns c = rw c.node_at.ensures (sym (told_above c.args.self.now c.args.at))
