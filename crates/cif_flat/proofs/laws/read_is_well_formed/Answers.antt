-- The law of files that are read.
use Rattle.cif_flat.proofs.Reading.{well_formed}
use Rattle.cif_flat.proofs.laws.read_is_well_formed.Goals as goal

pub returns : goal.returns
returns c = well_formed
