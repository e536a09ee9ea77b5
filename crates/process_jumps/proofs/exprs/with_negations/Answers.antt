use Rattle.std.proofs.Common.{arith}
use Rattle.process_jumps.proofs.Growing.{so_far_more}
use Rattle.process_jumps.proofs.exprs.with_negations.Goals as goal

pub loop-other-preserved : goal.loop-other-preserved
loop-other-preserved c =
    so_far_more c.args.exprs.now c.loop-other.exprs c.negation.new.exprs c.args.first c.args.others.now
    c.loop-other.other-index c.in_ok-negation.field-0 c.loop-other.args c.push-in-loop-other.new.self
    c.loop-other.invariant (omega arith) c.in_ok-negation.ensures c.in_ok-push-2.ensures.ok
