use Rattle.made_source.proofs.Lengths.{made_is_short}
use Rattle.made_source.proofs.laws.made_sources_are_short.Goals as goal

pub returns : goal.returns
returns c = made_is_short
