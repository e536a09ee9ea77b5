use Rattle.mask_nodes.proofs.drawing.finish.Given as goal

abbrev pub ghost-classify : goal.ghost-classify
ghost-classify g a = g.drawn

abbrev pub ghost-assemble : goal.ghost-assemble
ghost-assemble g a = g.drawn
