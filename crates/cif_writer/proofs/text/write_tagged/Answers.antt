use Rattle.std.specs.List.{flat_map}
use Rattle.outside.proofs.Written.{written_then}
use Rattle.cif_writer.specs.Texts.{number_text}
use Rattle.cif_writer.proofs.text.write_tagged.Goals as goal

pub returns-clause-taken : goal.returns-clause-taken
returns-clause-taken g c =
    written_then c.in_ok-write_all.field-0 _ _ _ c.args.letters.now
    (flat_map number_text c.args.numbers.now) c.write_numbers.result
    c.in_ok-write_all.ensures.taken c.write_numbers.ensures.taken
