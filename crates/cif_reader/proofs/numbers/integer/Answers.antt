use Rattle.std.proofs.Common.{ap, drop, pos}
use Rattle.cif_form.specs.Readers.{and_then, gives, natural_from, integer_from}
use Rattle.cif_reader.specs.Capped.{cut_number}
use Rattle.cif_reader.proofs.Readers.{found_later, ends_later}
use Rattle.cif_reader.proofs.numbers.integer.Goals as goal

pub returns-clause-answers : goal.returns-clause-answers
returns-clause-answers c =
    let bytes = c.args.bytes.now in
    let start = c.past_separators.result in
    found_later cut_number (integer_from (drop c.args.at bytes)) (and_then natural_from (gives pos) (drop start bytes))
    bytes c.args.at start c.unsigned.result
    (ap (and_then natural_from (gives pos)) c.past_separators.ensures.rest) c.past_separators.ensures.behind
    c.unsigned.ensures.answers

pub returns-clause-further : goal.returns-clause-further
returns-clause-further c =
    ends_later c.args.at c.past_separators.result c.unsigned.result c.past_separators.ensures.behind
    c.unsigned.ensures.further
