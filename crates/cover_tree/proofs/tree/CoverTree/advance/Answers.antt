use Rattle.cover_tree.proofs.tree.CoverTree.advance.Goals as goal

-- src/tree.rt
pub returns-clause-changes : goal.returns-clause-changes
returns-clause-changes c = rw c.in_ok-close.ensures c.in_ok-last.ensures.pieces
