use Rattle.mp_program.proofs.Soundness.{sound}
use Rattle.mp_program.proofs.Effects.{form_reads_is}
use Rattle.mp_program.proofs.laws.reads.Goals as goal

pub returns : goal.returns
returns c = λ name other f x at. form_reads_is c.args.program.now name other f x (sound c.args.program.now) at
