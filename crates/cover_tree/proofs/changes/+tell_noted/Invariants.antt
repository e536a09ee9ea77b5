use Rattle.cover_tree.proofs.changes.+tell_noted.Given as goal

abbrev pub decreases-tell_noted : goal.decreases-tell_noted
decreases-tell_noted l = l.part.width
