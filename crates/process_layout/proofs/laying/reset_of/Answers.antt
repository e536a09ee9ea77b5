use Rattle.std.proofs.Common.{◌∙◌, Some, ap, sym}
use Rattle.std.specs.Prelude.{position}
use Rattle.mp_program.specs.Names.{is_reset}
use Rattle.process_layout.proofs.Ordered.{no_reset, some_reset}
use Rattle.process_layout.proofs.laying.reset_of.Goals as goal

pub returns-in_default : goal.returns-in_default
returns-in_default c =
    no_reset c.args.program.now c.args.laid.now.cells
    (sym (c.reset_at.ensures ∙ ap (position is_reset) c.as_slice.ensures) ∙ c.in_default.is)

pub returns : goal.returns
returns c =
    some_reset c.args.program.now c.args.laid.now.roles c.args.laid.now.cells c.requires c.in-Ok.index
    (sym (c.reset_at.ensures ∙ ap (position is_reset) c.as_slice.ensures) ∙ c.in-Some.is
    ∙ ap Some (sym c.in-Ok.ensures.1)) c.cell.result
    c.cell.ensures
