use Rattle.std.proofs.Common.{arith}
use Rattle.cell_set.proofs.Words.{highest_is}
use Rattle.cell_set.proofs.bits.highest.Goals as goal

-- src/bits.rt
pub returns-clause-some : goal.returns-clause-some
returns-clause-some c = highest_is c.args.word (omega arith) (omega arith)
