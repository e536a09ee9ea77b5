use Rattle.std.proofs.Common.{arith}
use Rattle.union_find.proofs.Finding.{flat_more}
use Rattle.union_find.proofs.forest.flatten.Goals as goal

pub loop-i-preserved : goal.loop-i-preserved
loop-i-preserved c = flat_more _ c.loop-i.parents c.loop-i.i c.loop-i.invariant (omega arith)
