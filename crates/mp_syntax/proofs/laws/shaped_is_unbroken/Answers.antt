use Rattle.mp_syntax.proofs.Unique.{shaped_is_unbroken}
use Rattle.mp_syntax.proofs.laws.shaped_is_unbroken.Goals as goal

pub returns : goal.returns
returns c = shaped_is_unbroken
