-- A whole walk draws the expansion.
use Rattle.cif_form.proofs.WalkDraws.{walk_draws}
use Rattle.cif_form.proofs.laws.walk_is_expansion.Goals as goal

pub returns : goal.returns
returns c = walk_draws
