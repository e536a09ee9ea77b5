use Rattle.std.proofs.Common.{w64}
use Rattle.std.proofs.lemmas.Nat.Bits.{bit_at_set_same, bit_at_set_other}
use Rattle.cell_set.proofs.bits.with.Goals as goal

-- src/bits.rt
pub returns : goal.returns
returns c = record { set = bit_at_set_same w64 _ _ c.requires; others = bit_at_set_other w64 _ _ c.requires }
