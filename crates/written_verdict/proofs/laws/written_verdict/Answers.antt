use Rattle.written_verdict.proofs.Verdict.{verdict}
use Rattle.written_verdict.proofs.laws.written_verdict.Goals as goal

pub returns : goal.returns
returns c = λ w.
    let (s, framed, one) = c.one_frame.ensures w in
    verdict w s (c.same_rules.ensures w s framed) (c.all_sound.ensures s) (c.chains.ensures s)
