use Rattle.mask_nodes.proofs.drawing.drawn.Given as goal

abbrev pub ghost-finish : goal.ghost-finish
ghost-finish a = (a.shapes.now, a.places.now)
