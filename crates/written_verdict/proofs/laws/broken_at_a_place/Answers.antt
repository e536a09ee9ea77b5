use Rattle.written_verdict.proofs.Placing.{broken_place}
use Rattle.written_verdict.proofs.laws.broken_at_a_place.Goals as goal

pub returns : goal.returns
returns c = λ w.
    let (s, framed, one) = c.one_frame.ensures w in
    broken_place w s framed (c.same_rules.ensures w s framed) (c.broken_at_a_place.ensures s)
