use Rattle.cif_reader.proofs.Existing.{file_scans}
use Rattle.cif_reader.proofs.laws.text_verdict.Goals as goal

pub returns : goal.returns
returns c = file_scans c.command_is_found.ensures
