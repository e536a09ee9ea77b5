use Rattle.std.proofs.Common.{subst}
use Rattle.mp_rules.specs.Breaking.{IsUnbroken}
use Rattle.program_clock.specs.Running.{Running}
use Rattle.source_run.proofs.machine.Machine.sound.Goals as goal

pub returns-clause-unbroken : goal.returns-clause-unbroken
returns-clause-unbroken c =
    let P : Running → Type 0 = λ v. IsUnbroken v.program in subst P c.self.view_is c.self.invariant.unbroken
