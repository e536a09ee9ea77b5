-- The law of writing.
use Rattle.cif_form.proofs.Written.{written_reads}
use Rattle.cif_form.proofs.laws.written_is_read.Goals as goal

pub returns : goal.returns
returns c = written_reads
