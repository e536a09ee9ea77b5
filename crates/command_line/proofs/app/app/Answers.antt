use Rattle.std.proofs.lemmas.Result.{IfOk-weaker}
use Rattle.command_line.specs.App as spec
use Rattle.command_line.proofs.Settings.{one_more_form}
use Rattle.command_line.proofs.app.app.Goals as goal

pub returns : goal.returns
returns c =
    let trace = one_more_form c.top.result spec.trace _ c.top.ensures c.in_ok-trace.trace c.in_ok-trace.ensures in
    let compile =
    one_more_form c.in_ok-trace.trace spec.compile _ trace c.in_ok-compile.compile c.in_ok-compile.ensures in
    let replay =
    one_more_form c.in_ok-compile.compile spec.replay _ compile c.in_ok-replay.replay c.in_ok-replay.ensures in
    let sim = one_more_form c.in_ok-replay.replay spec.sim _ replay c.in_ok-sim.sim c.in_ok-sim.ensures in
    let net = one_more_form c.in_ok-sim.sim spec.net _ sim c.in_ok-net.net c.in_ok-net.ensures in
    let stats = one_more_form c.in_ok-net.net spec.stats _ net c.in_ok-stats.stats c.in_ok-stats.ensures in
    let board = one_more_form c.in_ok-stats.stats spec.board _ stats c.in_ok-board.board c.in_ok-board.ensures in
    let make = one_more_form c.in_ok-board.board spec.make _ board c.in_ok-make.make c.in_ok-make.ensures in
    IfOk-weaker c.with_form-8.result _ _ (one_more_form c.in_ok-make.make spec.rules _ make) c.with_form-8.ensures
