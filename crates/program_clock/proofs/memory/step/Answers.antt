use Rattle.std.proofs.Common.{sym, subst}
use Rattle.mp_program.specs.State.{State, IsState}
use Rattle.program_clock.specs.Remembered.{state_of}
use Rattle.program_clock.specs.Settled.{IsBare}
use Rattle.program_clock.proofs.Advancing.{bare_state}
use Rattle.program_clock.proofs.memory.step.Goals as goal

pub returns-clause-state : goal.returns-clause-state
returns-clause-state c =
    subst (IsState c.args.program.now) (sym c.go_on.ensures)
    (c.next_states.ensures (state_of c.args.memory.now) c.args.inputs.now c.args.env.now c.requires.state)

pub returns-clause-bare : goal.returns-clause-bare
returns-clause-bare c =
    let p = c.args.program.now in
    subst (λ (st : State). IsBare p.defs st.stored) (sym c.go_on.ensures)
    (bare_state p (state_of c.args.memory.now) c.args.inputs.now c.args.env.now)
