use Rattle.mp_verdict.proofs.Verdict.{verdict}
use Rattle.mp_verdict.proofs.laws.program_verdict.Goals as goal

pub returns : goal.returns
returns c = λ p. verdict p (c.all_sound.ensures p) (c.chains.ensures p)
