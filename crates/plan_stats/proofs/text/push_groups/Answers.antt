use Rattle.std.proofs.Common.{arith}
use Rattle.plan_stats.proofs.Lines.{all_added, group_added}
use Rattle.plan_stats.proofs.text.push_groups.Goals as goal

pub loop-index-preserved : goal.loop-index-preserved
loop-index-preserved c =
    group_added c.loop-index.index c.args.groups.now c.index-groups-index.result c.args.text.now.items
    c.loop-index.text.items c.push_group.new.text.items c.loop-index-test.true c.loop-index.invariant
    c.in_ok-push_group.ensures c.index-groups-index.is

pub returns : goal.returns
returns c =
    all_added c.loop-index.index c.args.groups.now c.args.text.now.items c.loop-index.text.items
    (omega (arith, c.loop-index-test.false)) c.loop-index.invariant
