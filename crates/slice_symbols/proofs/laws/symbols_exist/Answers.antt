use Rattle.slice_symbols.proofs.Existing.{symbols_exist}
use Rattle.slice_symbols.proofs.laws.symbols_exist.Goals as goal

pub returns : goal.returns
returns c = symbols_exist
