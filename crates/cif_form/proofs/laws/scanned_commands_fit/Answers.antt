-- The law of what is read.
use Rattle.cif_form.proofs.Fitting.{file_fits}
use Rattle.cif_form.proofs.laws.scanned_commands_fit.Goals as goal

pub returns : goal.returns
returns c = file_fits
