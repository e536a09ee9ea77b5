use Rattle.std.proofs.Common.{◌∙◌, ap, subst}
use Rattle.switch_net.proofs.Circuits.{breaks_nothing}
use Rattle.switch_net.specs.Values.{value_at}
use Rattle.clock_run.specs.Refused.{IsRefused}
use Rattle.sim_run.proofs.Transcripts.{all_unknown}
use Rattle.board_run.proofs.run.circuit.Goals as goal

pub returns-in-Ok-clause-network : goal.returns-in-Ok-clause-network
returns-in-Ok-clause-network c = c.in-Ok.ensures.network

pub returns-in-Ok-clause-pads : goal.returns-in-Ok-clause-pads
returns-in-Ok-clause-pads c = c.in-Ok.ensures.pads

pub returns-in-Ok-clause-unknown : goal.returns-in-Ok-clause-unknown
returns-in-Ok-clause-unknown c = ap value_at c.in-Ok.ensures.unknown ∙ all_unknown c.args.network.nodes

pub unreachable-requires : goal.unreachable-requires
unreachable-requires c =
    let pads = c.args.pads.now in
    let first = subst (IsRefused c.args.network pads) c.in-Err-Broken.field-0-is c.in-Err-Broken.ensures.judged in
    breaks_nothing c.args.network pads c.in-Err-Broken.field-0-0 c.requires.has_pads first
