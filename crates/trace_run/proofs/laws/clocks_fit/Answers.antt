use Rattle.std.proofs.Common.{subst, sym}
use Rattle.mp_base.specs.declared.refusal.Place.{Place}
use Rattle.mp_program.specs.declared.program.Program.{Program}
use Rattle.mp_rules.specs.Rules.{E20, E22, E23, E36}
use Rattle.mp_rules.proofs.Unbroken.{keeps_36}
use Rattle.trace_run.specs.Laws.{StatesLast, ClocksFit}
use Rattle.trace_run.proofs.Clocks.{states_last, clocks_fit}
use Rattle.trace_run.proofs.Unbroken.{keeps_20, keeps_22, keeps_23}
use Rattle.trace_run.proofs.laws.clocks_fit.Goals as goal

pub zero_is_a_state-requires : goal.zero_is_a_state-requires
zero_is_a_state-requires c =
    subst (λ (p : Program). (at : Place) → E36 p at → ⊥) (sym c.program-program.ensures)
    (keeps_36 c.args.checked.now.program c.unbroken.ensures)

pub environments_fit-requires-clause-names : goal.environments_fit-requires-clause-names
environments_fit-requires-clause-names c =
    subst (λ (p : Program). (at : Place) → E20 p at → ⊥) (sym c.program-program.ensures)
    (keeps_20 c.args.checked.now.program c.unbroken.ensures)

pub environments_fit-requires-clause-sorts : goal.environments_fit-requires-clause-sorts
environments_fit-requires-clause-sorts c =
    subst (λ (p : Program). (at : Place) → E22 p at → ⊥) (sym c.program-program.ensures)
    (keeps_22 c.args.checked.now.program c.unbroken.ensures)

pub environments_fit-requires-clause-sizes : goal.environments_fit-requires-clause-sizes
environments_fit-requires-clause-sizes c =
    subst (λ (p : Program). (at : Place) → E23 p at → ⊥) (sym c.program-program.ensures)
    (keeps_23 c.args.checked.now.program c.unbroken.ensures)

pub next_states_fit-requires-clause-names : goal.next_states_fit-requires-clause-names
next_states_fit-requires-clause-names c =
    subst (λ (p : Program). (at : Place) → E20 p at → ⊥) (sym c.program-program.ensures)
    (keeps_20 c.args.checked.now.program c.unbroken.ensures)

pub next_states_fit-requires-clause-sorts : goal.next_states_fit-requires-clause-sorts
next_states_fit-requires-clause-sorts c =
    subst (λ (p : Program). (at : Place) → E22 p at → ⊥) (sym c.program-program.ensures)
    (keeps_22 c.args.checked.now.program c.unbroken.ensures)

pub next_states_fit-requires-clause-sizes : goal.next_states_fit-requires-clause-sizes
next_states_fit-requires-clause-sizes c =
    subst (λ (p : Program). (at : Place) → E23 p at → ⊥) (sym c.program-program.ensures)
    (keeps_23 c.args.checked.now.program c.unbroken.ensures)

pub returns-clause-last : goal.returns-clause-last
returns-clause-last c =
    subst StatesLast c.program-program.ensures (states_last c.program-program.result.now c.next_states.ensures)

pub returns-clause-fit : goal.returns-clause-fit
returns-clause-fit c =
    subst ClocksFit c.program-program.ensures
    (clocks_fit c.program-program.result.now c.environments_fit.ensures c.outputs_fit.ensures c.next_states_fit.ensures)
