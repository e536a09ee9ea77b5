use Rattle.cell_set.proofs.tree.+clear.Given as goal

abbrev pub decreases-clear : goal.decreases-clear
decreases-clear l = l.item
