-- The law of whole files.
use Rattle.cif_form.proofs.Whole.{whole}
use Rattle.cif_form.proofs.laws.written_is_whole.Goals as goal

pub returns : goal.returns
returns c = whole
