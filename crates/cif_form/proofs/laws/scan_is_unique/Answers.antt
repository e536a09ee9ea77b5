-- The law of scans.
use Rattle.cif_form.proofs.Scanning.{one_file_scan}
use Rattle.cif_form.proofs.laws.scan_is_unique.Goals as goal

pub returns : goal.returns
returns c = one_file_scan
