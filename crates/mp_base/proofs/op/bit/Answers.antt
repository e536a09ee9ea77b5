use Rattle.std.proofs.Common.{sym}
use Rattle.std.proofs.lemmas.Nat.Bits.{bit_at_above}
use Rattle.mp_base.proofs.op.bit.Goals as goal

pub returns-else-index-lt64 : goal.returns-else-index-lt64
returns-else-index-lt64 c = sym (bit_at_above c.args.word 64 c.args.index c.ranges.word.fits c.if-index-lt64.false)
