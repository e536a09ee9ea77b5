use Rattle.cover_tree.proofs.raise.+raise_part.Given as goal

abbrev pub decreases-raise_part : goal.decreases-raise_part
decreases-raise_part l = l.part.width
