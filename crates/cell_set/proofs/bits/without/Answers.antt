use Rattle.std.proofs.Common.{w64}
use Rattle.std.proofs.lemmas.Nat.Bits.{bit_at_clear_same, bit_at_clear_other}
use Rattle.cell_set.proofs.bits.without.Goals as goal

-- src/bits.rt
pub returns-clause-clear : goal.returns-clause-clear
returns-clause-clear c = bit_at_clear_same w64 _ _ c.requires

-- src/bits.rt
pub returns-clause-others : goal.returns-clause-others
returns-clause-others c = bit_at_clear_other w64 _ _ c.requires
