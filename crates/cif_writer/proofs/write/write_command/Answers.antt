use Rattle.std.proofs.Common.{◌∷◌, []}
use Rattle.outside.proofs.Written.{written_then}
use Rattle.cif_form.specs.Writing.{text_of}
use Rattle.cif_writer.proofs.write.write_command.Goals as goal

pub returns-clause-taken : goal.returns-clause-taken
returns-clause-taken g c =
    written_then c.in_ok-write_text.field-0 _ _ _ (text_of c.args.command.now)
    (59 ∷ 10 ∷ []) c.write_all.result c.in_ok-write_text.ensures.taken c.write_all.ensures.taken
