use Rattle.std.proofs.Common.{◌-◌, length}
use Rattle.cif_reader.proofs.Scanned.{Reached}
use Rattle.cif_reader.proofs.read.add_commands.Given as goal

abbrev pub invariant-commands : goal.invariant-commands
invariant-commands l = Reached l.bytes l.cif l.inside l.at

abbrev pub decreases-commands : goal.decreases-commands
decreases-commands l = length l.bytes - l.at
