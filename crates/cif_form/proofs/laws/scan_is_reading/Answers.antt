-- A whole scan is a reading.
use Rattle.cif_form.proofs.ScanReads.{file_reads}
use Rattle.cif_form.proofs.laws.scan_is_reading.Goals as goal

pub returns : goal.returns
returns c = file_reads
