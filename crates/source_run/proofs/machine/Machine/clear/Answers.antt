use Rattle.std.proofs.Common.{sym, subst, rules}
use Rattle.mp_program.specs.declared.program.Program.{Program}
use Rattle.mp_rules.specs.Breaking.{IsUnbroken}
use Rattle.source_run.proofs.machine.Machine.clear.Goals as goal

pub invariant_of-self : goal.invariant_of-self
invariant_of-self c = record {
  unbroken = subst (λ (q : Program). IsUnbroken q) (sym c.clear.ensures.program) c.self.invariant.unbroken;
  padded = search rules;
  ordered = search rules;
  fits = search rules;
}
