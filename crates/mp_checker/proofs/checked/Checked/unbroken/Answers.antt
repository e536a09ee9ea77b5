use Rattle.std.proofs.Common.{subst}
use Rattle.mp_rules.specs.Breaking.{IsUnbroken}
use Rattle.mp_checker.specs.Checking.{CheckedProgram}
use Rattle.mp_checker.proofs.checked.Checked.unbroken.Goals as goal

pub returns : goal.returns
returns c = let P : CheckedProgram → Type 0 = λ v. IsUnbroken v.program in
    subst P c.self.view_is c.self.invariant.unbroken
