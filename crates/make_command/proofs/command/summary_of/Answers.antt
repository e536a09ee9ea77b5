use Rattle.std.proofs.Common.{subst, IfOk}
use Rattle.std.proofs.lemmas.Result.{IfOk-weaker}
use Rattle.made_run.specs.Summary.{IsSummary}
use Rattle.make_command.proofs.Making.{tells_run}
use Rattle.make_command.proofs.command.summary_of.Goals as goal

pub drawn_network-requires : goal.drawn_network-requires
drawn_network-requires c =
    c.chips_run.ensures.draws c.args.ready.now.checked.program c.args.chip.now c.requires.chip.chip

pub summary-requires-clause-has_pads : goal.summary-requires-clause-has_pads
summary-requires-clause-has_pads c =
    c.chips_run.ensures.padded c.args.ready.now.checked.program c.args.chip.now c.in_ok-network.network
    c.args.ready.now.stimulus.pads c.requires.chip.chip c.requires.padded c.in_ok-network.ensures

pub returns : goal.returns
returns c =
    let p = c.args.ready.now.checked.program in
    let given = c.args.ready.now.stimulus in
    let net = c.in_ok-network.network in
    IfOk-weaker c.summary.result _ _
    (λ text told.
    tells_run p given c.args.chip.now c.replays_follow.ensures c.sums_settle.ensures c.requires.padded
    c.requires.one_output c.requires.clocks c.requires.settled c.requires.chip net c.in_ok-network.ensures text.items
    told)
    (subst (λ w. IfOk c.summary.result (λ text. IsSummary w net given text.items)) c.weight.ensures.weight
    c.summary.ensures)
