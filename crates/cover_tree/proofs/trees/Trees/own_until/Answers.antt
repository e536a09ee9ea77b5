use Rattle.std.proofs.Common.{sym, ◌∙◌}
use Rattle.cover_tree.proofs.Nodes.{own_above}
use Rattle.cover_tree.proofs.Covering.{own_later}
use Rattle.cover_tree.proofs.trees.Trees.own_until.Goals as goal

-- src/trees.rt
pub returns-then-own-eq0 : goal.returns-then-own-eq0
returns-then-own-eq0 c = λ row i j.
    own_later c.args.self.now c.args.own c.args.at c.if-own-eq0.true c.requires row i

-- src/trees.rt
pub returns : goal.returns
returns c = λ row i j.
    own_above c.args.self.now row c.args.at
    ∙ (rw c.node_at.ensures at (c.until.ensures c.args.self.now.further row i j))
    ∙ sym (own_above c.args.self.now c.args.self.now.since c.args.at)
