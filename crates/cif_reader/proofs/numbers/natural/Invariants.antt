use Rattle.std.proofs.Common.{◌≡◌, ℕ, drop}
use Rattle.cif_form.specs.Readers.{digits_from}
use Rattle.cif_reader.specs.Capped.{cut}
use Rattle.cif_reader.proofs.numbers.natural.Given as goal

-- the digits so far write this number
abbrev pub invariant-loop-end : goal.invariant-loop-end
invariant-loop-end l = (total : ℕ) × (digits_from 0 (drop l.fn.at l.bytes) ≡ digits_from total (drop l.end l.bytes))
    × (l.value ≡ cut total)
