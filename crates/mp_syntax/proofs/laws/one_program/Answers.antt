use Rattle.mp_syntax.proofs.Unique.{one_program}
use Rattle.mp_syntax.proofs.laws.one_program.Goals as goal

pub returns : goal.returns
returns c = one_program
