use Rattle.process_plan.proofs.Keeping.{keeps_20}
use Rattle.process_sequencer.proofs.Billing.{is_built}
use Rattle.process_sequencer.proofs.sequencing.with_transfers.Goals as goal

pub own_names-requires : goal.own_names-requires
own_names-requires c = keeps_20 c.args.program.now c.requires.unbroken

pub built_is_same-requires-clause-built : goal.built_is_same-requires-clause-built
built_is_same-requires-clause-built c =
    is_built c.args.program.now c.args.order.now c.requires.unbroken c.args.layout c.requires.laid c.args.pads
    c.requires.padded c.in_ok-enabling.enabling c.in_ok-enabling.ensures c.in_ok-made.made.exprs
    c.in_ok-made.made.transfers c.in_ok-made.ensures c.own_names.ensures c.requires.moving
