use Rattle.path_draft.proofs.Telling.{latches_are}
use Rattle.path_draft.proofs.flags.latches_told.Goals as goal

pub returns : goal.returns
returns c = λ e.
    latches_are c.args.net.now c.args.inputs.now c.args.flags.now c.requires.each (c.all_take.ensures e)
