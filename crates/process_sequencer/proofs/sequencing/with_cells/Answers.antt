use Rattle.process_sequencer.proofs.Billing.{is_idle}
use Rattle.process_sequencer.proofs.sequencing.with_cells.Goals as goal

pub idle_is_same-requires-clause-idle : goal.idle_is_same-requires-clause-idle
idle_is_same-requires-clause-idle c =
    is_idle c.args.program.now c.args.order.now c.requires.unbroken c.args.layout c.requires.laid c.args.pads
    c.requires.padded c.requires.still c.new-exprs.result c.new-transfers.result c.new-exprs.ensures
    c.new-transfers.ensures
