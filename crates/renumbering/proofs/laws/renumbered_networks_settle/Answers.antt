use Rattle.renumbering.proofs.Settling.{settles_alike}
use Rattle.renumbering.proofs.laws.renumbered_networks_settle.Goals as goal

pub returns : goal.returns
returns c = settles_alike
