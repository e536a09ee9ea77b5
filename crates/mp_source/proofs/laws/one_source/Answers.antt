use Rattle.mp_source.proofs.Verdict.{one_source}
use Rattle.mp_source.proofs.laws.one_source.Goals as goal

pub returns : goal.returns
returns c = one_source c.one_spelling.ensures c.one_program.ensures c.one_expansion.ensures
