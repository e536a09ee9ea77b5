use Rattle.std.proofs.Common.{◌∷◌, []}
use Rattle.outside.proofs.Written.{written_then}
use Rattle.cif_writer.proofs.write.write_comment.Goals as goal

pub returns-clause-taken : goal.returns-clause-taken
returns-clause-taken g c =
    written_then c.in_ok-write_both.field-0 _ _ _ (40 ∷ c.args.text.now)
    (41 ∷ []) c.write_all.result c.in_ok-write_both.ensures.taken c.write_all.ensures.taken
