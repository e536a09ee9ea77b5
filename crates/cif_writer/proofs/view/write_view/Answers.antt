use Rattle.std.proofs.Common.{◌∷◌, []}
use Rattle.outside.proofs.Written.{written_then}
use Rattle.cif_form.specs.Writing.{text_of}
use Rattle.cif_list.specs.Showing.{command_shown}
use Rattle.cif_writer.proofs.view.write_view.Goals as goal

pub returns-clause-taken : goal.returns-clause-taken
returns-clause-taken g c =
    written_then c.in_ok-write_shown.field-0 _ _ _ (text_of (command_shown c.args.view))
    (59 ∷ 10 ∷ []) c.write_all.result
    c.in_ok-write_shown.ensures.taken c.write_all.ensures.taken
