-- The law of reading.
use Rattle.cif_form.proofs.Reading.{reads_once}
use Rattle.cif_form.proofs.laws.reading_is_unique.Goals as goal

pub returns : goal.returns
returns c = reads_once
