use Rattle.std.proofs.Common.{subst, sym, take, ◌+◌}
use Rattle.task_schedule.specs.Turns.{IsLatest}
use Rattle.task_schedule.proofs.Turns.{latest_more}
use Rattle.task_schedule.proofs.scheduling.latest.Goals as goal

pub loop-arg-preserved : goal.loop-arg-preserved
loop-arg-preserved c =
    subst (IsLatest c.args.turns.now (take (c.loop-arg.arg-index + 1) c.args.args.now)) (sym c.later-last.ensures)
    (latest_more c.args.turns.now c.args.args.now c.loop-arg.arg-index 0 c.loop-arg.last c.loop-arg-test.true
    c.loop-arg.invariant)
