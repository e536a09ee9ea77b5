use Rattle.mp_program.proofs.Soundness.{sound}
use Rattle.mp_program.proofs.Environment.{driven_agrees}
use Rattle.mp_program.proofs.laws.driven_by_reads.Goals as goal

pub returns : goal.returns
returns c = λ st env other a x fits size size2 at driven given read.
    driven_agrees c.args.program.now st env other a x
    (sound c.args.program.now) fits size size2 at driven given read
