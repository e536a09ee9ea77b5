-- The law of the reader that is a function.
use Rattle.cif_form.proofs.Scanning.{found}
use Rattle.cif_form.proofs.laws.command_is_found.Goals as goal

pub returns : goal.returns
returns c = found
