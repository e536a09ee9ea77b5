use Rattle.std.proofs.Common.{sym, ◌∙◌, subst, rules}
use Rattle.mp_base.specs.declared.refusal.Place.{Place}
use Rattle.mp_program.specs.declared.program.Program.{Program}
use Rattle.mp_rules.specs.Breaking.{IsUnbroken}
use Rattle.mp_rules.specs.Rules.{E36}
use Rattle.mp_rules.proofs.Unbroken.{keeps_36}
use Rattle.source_run.proofs.machine.Machine.open.Goals as goal

pub zero_is_a_state-requires : goal.zero_is_a_state-requires
zero_is_a_state-requires c =
    subst (λ (p : Program). (at : Place) → E36 p at → ⊥) (sym c.program-program.ensures)
    (keeps_36 c.args.checked.now.program c.unbroken.ensures)

pub invariant_of-result : goal.invariant_of-result
invariant_of-result c = record {
  unbroken = subst (λ (p : Program). IsUnbroken p) (sym (c.in_ok-open.ensures.program ∙ c.program-program.ensures))
      c.unbroken.ensures;
  padded = search rules;
  ordered = search rules;
  fits = search rules;
}
