use Rattle.std.proofs.Common.{◌∷◌, []}
use Rattle.outside.proofs.Written.{written_then}
use Rattle.cif_form.specs.Writing.{path_text}
use Rattle.cif_writer.proofs.write.write_polygon.Goals as goal

pub returns-clause-taken : goal.returns-clause-taken
returns-clause-taken g c =
    written_then c.in_ok-write_all.field-0 _ _ _ (80 ∷ [])
    (path_text c.args.path.now) c.write_path.result c.in_ok-write_all.ensures.taken c.write_path.ensures.taken
