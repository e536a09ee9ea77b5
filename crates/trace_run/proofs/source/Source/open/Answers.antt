use Rattle.std.proofs.Common.{subst, sym}
use Rattle.mp_base.specs.declared.refusal.Place.{Place}
use Rattle.mp_program.specs.declared.program.Program.{Program}
use Rattle.mp_rules.specs.Rules.{E36}
use Rattle.mp_rules.proofs.Unbroken.{keeps_36}
use Rattle.trace_run.proofs.source.Source.open.Goals as goal

pub zero_is_a_state-requires : goal.zero_is_a_state-requires
zero_is_a_state-requires c =
    subst (λ (p : Program). (at : Place) → E36 p at → ⊥) (sym c.program-program.ensures)
    (keeps_36 c.args.checked.now.program c.unbroken.ensures)
