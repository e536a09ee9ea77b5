use Rattle.cif_place.proofs.shape.draw.Goals as goal

pub rect-requires : goal.rect-requires
rect-requires c = c.if-not-are_near.ensures.near c.args.layer
