use Rattle.slice_symbols.proofs.Unique.{symbols_unique}
use Rattle.slice_symbols.proofs.laws.symbols_are_unique.Goals as goal

pub returns : goal.returns
returns c = symbols_unique
