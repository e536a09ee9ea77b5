use Rattle.cover_tree.proofs.Telling.{begins_next}
use Rattle.cover_tree.proofs.changes.add.Goals as goal

-- src/changes.rt
pub returns-in-Ok-close : goal.returns-in-Ok-close
returns-in-Ok-close c = λ before after t.
    rw (c.in-Ok.is, c.in-Ok-close.ensures, c.end-in-Ok-close.ensures)
    (begins_next before after c.args.pieces.now.items c.in-Ok.open c.args.part c.args.colour t)
