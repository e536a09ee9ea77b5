-- The law of what is read.
use Rattle.cif_form.proofs.Fitting.{command_fits}
use Rattle.cif_form.proofs.laws.read_command_fits.Goals as goal

pub returns : goal.returns
returns c = command_fits
