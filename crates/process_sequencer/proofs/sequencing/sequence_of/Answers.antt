use Rattle.std.proofs.Common.{◌∙◌, sym}
use Rattle.process_sequencer.proofs.Billing.{pads_same}
use Rattle.process_sequencer.proofs.Still.{moving_is, still_is}
use Rattle.process_sequencer.proofs.sequencing.sequence_of.Goals as goal

pub with_cells-requires-clause-padded : goal.with_cells-requires-clause-padded
with_cells-requires-clause-padded c =
    pads_same c.args.program.now c.args.pads.now c.in_ok-copy.copy c.requires.padded c.in_ok-copy.ensures

pub with_cells-requires-clause-still : goal.with_cells-requires-clause-still
with_cells-requires-clause-still c = still_is c.args.program.now (sym c.is_still.ensures ∙ c.if-is_still.true)

pub with_transfers-requires-clause-padded : goal.with_transfers-requires-clause-padded
with_transfers-requires-clause-padded c =
    pads_same c.args.program.now c.args.pads.now c.in_ok-copy.copy c.requires.padded c.in_ok-copy.ensures

pub with_transfers-requires-clause-moving : goal.with_transfers-requires-clause-moving
with_transfers-requires-clause-moving c = moving_is c.args.program.now (sym c.is_still.ensures ∙ c.if-is_still.false)
