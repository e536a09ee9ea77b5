use Rattle.cif_reader.proofs.Readable.{semicolon_stands, other_stands, nothing_stands}
use Rattle.cif_reader.proofs.read.past_semicolon.Goals as goal
use Rattle.cif_reader.proofs.read.past_semicolon.Goals.{
  else-semicolon-bytes-via-then-semicolon-bytes+else-bytes-semicolon-eq59,
  else-semicolon-bytes-via-else-semicolon-bytes,
}

pub returns-then-bytes-semicolon-eq59 : goal.returns-then-bytes-semicolon-eq59
returns-then-bytes-semicolon-eq59 c =
    semicolon_stands c.args.bytes.now c.args.at c.past_blanks-semicolon.result c.past_blanks-semicolon.ensures.rest
    c.past_blanks-semicolon.ensures.behind c.if-semicolon-bytes.true c.if-bytes-semicolon-eq59.true

pub returns-else-semicolon-bytes : goal.returns-else-semicolon-bytes
returns-else-semicolon-bytes c =
    let bytes = c.args.bytes.now in
    let semi = c.past_blanks-semicolon.result in
    let rest = c.past_blanks-semicolon.ensures.rest in
    elim c.else-semicolon-bytes.branch [
      | else-semicolon-bytes-via-then-semicolon-bytes+else-bytes-semicolon-eq59 w ↦
          other_stands bytes c.args.at semi rest w.if-semicolon-bytes.true w.if-bytes-semicolon-eq59.false
      | else-semicolon-bytes-via-else-semicolon-bytes w ↦
          nothing_stands bytes c.args.at semi rest w.if-semicolon-bytes.false
    ]
