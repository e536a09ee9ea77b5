use Rattle.made_program.proofs.Unbroken.{made_is_unbroken}
use Rattle.made_program.proofs.laws.made_programs_are_unbroken.Goals as goal

pub returns : goal.returns
returns c = made_is_unbroken
