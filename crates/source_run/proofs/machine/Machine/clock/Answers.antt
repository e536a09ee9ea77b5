use Rattle.std.proofs.Common.{ℕ, List, sym, subst, rules}
use Rattle.mp_program.specs.declared.program.Program.{Program}
use Rattle.mp_program.specs.Environment.{IsEnvironment}
use Rattle.mp_program.specs.Pads.{FitsPads, input_pads}
use Rattle.mp_program.specs.State.{State, IsState}
use Rattle.mp_program.specs.Step.{next_state}
use Rattle.mp_rules.specs.Breaking.{IsUnbroken}
use Rattle.mp_fitting.specs.Fitting.{StateFits}
use Rattle.program_clock.specs.Running.{Running}
use Rattle.source_run.proofs.machine.Machine.clock.Goals as goal

-- what fits stays so
abbrev NextFits : Program → Type 0
NextFits p = (st : State) (inputs env : List ℕ) → IsState p st → StateFits p st → FitsPads (input_pads p) inputs
    → IsEnvironment p st inputs env → StateFits p (next_state p st inputs env)

pub states_fit-requires-clause-unbroken : goal.states_fit-requires-clause-unbroken
states_fit-requires-clause-unbroken c =
    subst (λ (p : Program). IsUnbroken p) (sym c.program-program.ensures) c.self.invariant.unbroken

pub invariant_of-self : goal.invariant_of-self
invariant_of-self c =
    let p = c.self.inside.clockwork.program in
    let st = c.self.inside.clockwork.state in
    let inputs = c.args.inputs.now in
    let steps = c.clock.ensures.clock in
    let law : NextFits p = subst NextFits c.program-program.ensures c.states_fit.ensures in
    let given : FitsPads (input_pads p) inputs =
    subst (λ (m : Running). FitsPads (input_pads m.program) inputs) (sym c.self.view_is) c.requires.inputs in
    let fits : StateFits p c.clock.new.self.state =
    subst (StateFits p) (sym steps.next)
    (law st inputs steps.env c.sound.ensures c.self.invariant.fits given steps.environment) in
    record {
      unbroken = subst (λ (q : Program). IsUnbroken q) (sym c.clock.ensures.program) c.self.invariant.unbroken;
      padded = search rules;
      ordered = search rules;
      fits = subst (λ (q : Program). StateFits q c.clock.new.self.state) (sym c.clock.ensures.program) fits;
    }
