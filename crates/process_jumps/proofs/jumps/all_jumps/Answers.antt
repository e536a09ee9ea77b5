use Rattle.std.proofs.Common.{arith}
use Rattle.process_jumps.proofs.Jumping.{jumps_more, jumps_all}
use Rattle.process_jumps.proofs.jumps.all_jumps.Goals as goal

pub loop-process-preserved : goal.loop-process-preserved
loop-process-preserved c =
    jumps_more c.args.program.now c.args.enables.now c.loop-process.process c.args.exprs.now c.loop-process.exprs
    c.jumps_of.new.exprs c.loop-process.jumps c.push.new.self c.in_ok-jumps_of.field-0 (omega arith)
    c.loop-process.invariant c.in_ok-jumps_of.ensures c.in_ok-push.ensures.ok

pub returns : goal.returns
returns c =
    jumps_all c.args.program.now c.args.enables.now c.loop-process.process c.args.exprs.now c.loop-process.exprs
    c.loop-process.jumps (omega arith) c.loop-process.invariant
