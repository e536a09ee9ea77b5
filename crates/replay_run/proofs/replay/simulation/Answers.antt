use Rattle.std.proofs.Common.{subst}
use Rattle.switch_net.proofs.Circuits.{breaks_nothing}
use Rattle.clock_run.specs.Refused.{IsRefused}
use Rattle.replay_run.proofs.replay.simulation.Goals as goal

pub returns-in-Ok-clause-network : goal.returns-in-Ok-clause-network
returns-in-Ok-clause-network c = c.in-Ok.ensures.network

pub returns-in-Ok-clause-given : goal.returns-in-Ok-clause-given
returns-in-Ok-clause-given c = c.in-Ok.ensures.given

pub returns-in-Ok-clause-unknown : goal.returns-in-Ok-clause-unknown
returns-in-Ok-clause-unknown c = c.in-Ok.ensures.unknown

pub unreachable-requires : goal.unreachable-requires
unreachable-requires c =
    let pads = c.args.given.now.pads in
    let first = subst (IsRefused c.args.network pads) c.in-Err-Broken.field-0-is c.in-Err-Broken.ensures.judged in
    breaks_nothing c.args.network pads c.in-Err-Broken.field-0-0 c.requires.has_pads first
