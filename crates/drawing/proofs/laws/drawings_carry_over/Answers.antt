use Rattle.drawing.proofs.Carried.{carry}
use Rattle.drawing.proofs.laws.drawings_carry_over.Goals as goal

pub returns : goal.returns
returns c = carry
