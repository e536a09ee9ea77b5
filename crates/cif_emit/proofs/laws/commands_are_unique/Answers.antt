use Rattle.cif_emit.proofs.Sliced.{commands_unique}
use Rattle.cif_emit.proofs.laws.commands_are_unique.Goals as goal

pub returns : goal.returns
returns c = commands_unique c.symbols_are_unique.ensures
