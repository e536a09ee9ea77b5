use Rattle.fabric_laws.proofs.Sizes.{are_sized}
use Rattle.fabric_laws.proofs.laws.channels_are_sized.Goals as goal

pub returns : goal.returns
returns c = are_sized c.rectangles_are_joined.ensures
