use Rattle.outside.proofs.Written.{written_then}
use Rattle.cif_writer.proofs.text.write_both.Goals as goal

pub returns-clause-taken : goal.returns-clause-taken
returns-clause-taken g c =
    written_then c.in_ok-write_all.field-0 _ _ _ c.args.first.now c.args.then.now c.write_all-2.result
    c.in_ok-write_all.ensures.taken c.write_all-2.ensures.taken
