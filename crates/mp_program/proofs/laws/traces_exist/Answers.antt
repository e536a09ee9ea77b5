use Rattle.mp_program.proofs.Existence.{a_trace}
use Rattle.mp_program.proofs.laws.traces_exist.Goals as goal

pub returns : goal.returns
returns c =
    λ st inputs fits. a_trace c.args.program.now c.args.order.now c.requires.ordered c.requires.state inputs st fits
