use Rattle.mp_program.specs.State.{zero_state}
use Rattle.mp_program.proofs.States.{one_trace_from}
use Rattle.mp_program.proofs.laws.one_trace.Goals as goal

pub returns : goal.returns
returns c = λ inputs a b first second.
    one_trace_from c.args.program.now c.args.order.now c.requires.ordered c.requires.state inputs
    (zero_state c.args.program.now) a b c.requires.state first second
