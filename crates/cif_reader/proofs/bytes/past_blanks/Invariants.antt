use Rattle.std.proofs.Common.{◌≡◌, drop}
use Rattle.cif_form.specs.Readers.{past_blanks}
use Rattle.cif_reader.proofs.bytes.past_blanks.Given as goal

abbrev pub invariant-loop-end : goal.invariant-loop-end
invariant-loop-end l = past_blanks (drop l.end l.bytes) ≡ past_blanks (drop l.fn.at l.bytes)
