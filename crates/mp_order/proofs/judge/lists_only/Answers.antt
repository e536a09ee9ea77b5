use Rattle.std.proofs.Common.{below_more, arith}
use Rattle.mp_order.proofs.judge.lists_only.Goals as goal

pub loop-k-preserved : goal.loop-k-preserved
loop-k-preserved c = below_more _ _ c.loop-k.invariant (c.has_rank.ensures c.if-not-has_rank.false)

pub returns : goal.returns
returns c = λ h k kl. c.loop-k.invariant k (omega (arith, kl, c.loop-k-test.false))
