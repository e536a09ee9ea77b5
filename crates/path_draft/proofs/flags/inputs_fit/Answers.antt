use Rattle.std.proofs.Common.{sym, ◌∙◌}
use Rattle.path_draft.proofs.Telling.{inputs_are}
use Rattle.path_draft.proofs.flags.inputs_fit.Goals as goal

pub returns-then-are_all_inputs : goal.returns-then-are_all_inputs
returns-then-are_all_inputs c = λ e.
    inputs_are c.args.net.now c.args.ids.now c.args.flags.now c.requires.each
    (sym c.are_all_inputs.ensures ∙ c.if-are_all_inputs.true) (c.are_inputs_told.ensures e)
