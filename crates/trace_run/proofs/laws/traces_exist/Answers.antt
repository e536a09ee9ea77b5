use Rattle.std.proofs.Common.{subst, sym}
use Rattle.mp_base.specs.declared.refusal.Place.{Place}
use Rattle.mp_program.specs.declared.program.Program.{Program}
use Rattle.mp_rules.specs.Rules.{E36}
use Rattle.mp_rules.proofs.Unbroken.{keeps_36}
use Rattle.trace_run.specs.Laws.{TraceExists, TraceOnce}
use Rattle.trace_run.proofs.Clocks.{trace_exists, trace_once}
use Rattle.trace_run.proofs.laws.traces_exist.Goals as goal

pub zero_is_a_state-requires : goal.zero_is_a_state-requires
zero_is_a_state-requires c =
    subst (λ (p : Program). (at : Place) → E36 p at → ⊥) (sym c.program-program.ensures)
    (keeps_36 c.args.checked.now.program c.unbroken.ensures)

pub returns-clause-exist : goal.returns-clause-exist
returns-clause-exist c =
    subst TraceExists c.program-program.ensures (trace_exists c.program-program.result.now c.traces_exist.ensures)

pub returns-clause-once : goal.returns-clause-once
returns-clause-once c =
    subst TraceOnce c.program-program.ensures
    (trace_once c.program-program.result.now c.one_environment.ensures c.next_states.ensures)
