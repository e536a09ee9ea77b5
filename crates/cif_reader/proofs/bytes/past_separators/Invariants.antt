use Rattle.std.proofs.Common.{◌≡◌, drop}
use Rattle.cif_form.specs.Readers.{past}
use Rattle.cif_reader.proofs.bytes.past_separators.Given as goal

abbrev pub invariant-loop-end : goal.invariant-loop-end
invariant-loop-end l = past (drop l.end l.bytes) ≡ past (drop l.fn.at l.bytes)
