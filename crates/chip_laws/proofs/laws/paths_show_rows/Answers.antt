use Rattle.chip_laws.proofs.Rows as proofs
use Rattle.chip_laws.proofs.laws.paths_show_rows.Goals as goal

pub returns : goal.returns
returns c = proofs.paths_show_rows
