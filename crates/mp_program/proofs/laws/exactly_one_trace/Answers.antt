use Rattle.mp_program.specs.State.{zero_state}
use Rattle.mp_program.proofs.Existence.{a_trace}
use Rattle.mp_program.proofs.States.{one_trace_from}
use Rattle.mp_program.proofs.laws.exactly_one_trace.Goals as goal

pub returns : goal.returns
returns c = λ order ordered inputs.
    let p = c.args.program.now in
    let (outputs, is) = a_trace p order ordered c.requires inputs (zero_state p) c.requires in (
      outputs,
      is,
      λ other also. one_trace_from p order ordered c.requires inputs (zero_state p) other outputs
          c.requires also is,
    )
