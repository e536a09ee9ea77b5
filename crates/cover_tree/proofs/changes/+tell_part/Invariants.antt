use Rattle.cover_tree.proofs.changes.+tell_part.Given as goal

abbrev pub decreases-tell_part : goal.decreases-tell_part
decreases-tell_part l = l.part.width
