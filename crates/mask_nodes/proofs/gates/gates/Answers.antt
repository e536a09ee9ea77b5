use Rattle.mask_nodes.proofs.gates.gates.Goals as goal

pub gate-requires : goal.gate-requires
gate-requires c = c.requires c.loop-root.root-index 0 c.loop-root-test.true
