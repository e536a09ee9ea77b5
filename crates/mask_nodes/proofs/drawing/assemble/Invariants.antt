use Rattle.mask_nodes.proofs.drawing.assemble.Given as goal

abbrev pub ghost-node_columns : goal.ghost-node_columns
ghost-node_columns g c = g.drawn

abbrev pub ghost-channels : goal.ghost-channels
ghost-channels g c = g.drawn
