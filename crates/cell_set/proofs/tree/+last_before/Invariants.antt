use Rattle.cell_set.proofs.tree.+last_before.Given as goal

abbrev pub decreases-last_before : goal.decreases-last_before
decreases-last_before l = l.item
