use Rattle.mp_program.proofs.Soundness.{sound}
use Rattle.mp_program.proofs.Effects.{silent}
use Rattle.mp_program.proofs.laws.silence.Goals as goal

pub returns : goal.returns
returns c = λ env name f lt none. silent c.args.program.now env name (sound c.args.program.now) f lt none
