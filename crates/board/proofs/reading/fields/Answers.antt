use Rattle.board.proofs.Words.{more_fields}
use Rattle.board.proofs.reading.fields.Goals as goal

pub returns-in-Some-split-2 : goal.returns-in-Some-split-2
returns-in-Some-split-2 c =
    more_fields _ _ _ c.in-Some.part.now c.in-Some-split.seen.now c.in-Some-split-2.field-0.0.now
    c.in-Some-split-2.field-0.1.now c.in-Some.ensures c.in-Some-split.ensures c.in-Some-split-2.ensures
