use Rattle.std.proofs.Common.{◌≡◌, ◌+◌, drop, pos, neg_ℤ, arith}
use Rattle.cif_form.specs.Readers.{and_then, gives, natural_from, signed_from}
use Rattle.cif_reader.specs.Capped.{cut_number}
use Rattle.cif_reader.proofs.Readers.{found_later, ends_later, signed_minus, signed_plain, signed_none}
use Rattle.cif_reader.proofs.numbers.signed.Goals as goal
use Rattle.cif_reader.proofs.numbers.signed.Goals.{
  else-start-bytes-via-then-start-bytes+else-bytes-start-eq45,
  else-start-bytes-via-else-start-bytes,
}

pub returns-then-bytes-start-eq45-clause-answers : goal.returns-then-bytes-start-eq45-clause-answers
returns-then-bytes-start-eq45-clause-answers c =
    let bytes = c.args.bytes.now in
    let start = c.past_separators-start.result in
    let behind = c.past_separators-start.ensures.behind in
    found_later cut_number (signed_from (drop c.args.at bytes))
    (and_then natural_from (gives (λ n. neg_ℤ (pos n))) (drop (start + 1) bytes))
    bytes c.args.at (start + 1) c.negative.result
    (signed_minus bytes c.args.at start c.past_separators-start.ensures.rest c.if-start-bytes.true
    c.if-bytes-start-eq45.true)
    (omega (arith, behind)) c.negative.ensures.answers

pub returns-then-bytes-start-eq45-clause-further : goal.returns-then-bytes-start-eq45-clause-further
returns-then-bytes-start-eq45-clause-further c =
    let behind = c.past_separators-start.ensures.behind in
    ends_later c.args.at (c.past_separators-start.result + 1) c.negative.result (omega (arith, behind))
    c.negative.ensures.further

pub returns-clause-answers : goal.returns-clause-answers
returns-clause-answers c =
    let bytes = c.args.bytes.now in
    let start = c.past_separators-start.result in
    let rest = c.past_separators-start.ensures.rest in
    let plain : and_then natural_from (gives pos) (drop start bytes) ≡ signed_from (drop c.args.at bytes) =
    elim c.else-start-bytes.branch [
      | else-start-bytes-via-then-start-bytes+else-bytes-start-eq45 w ↦
          signed_plain bytes c.args.at start rest w.if-start-bytes.true w.if-bytes-start-eq45.false
      | else-start-bytes-via-else-start-bytes w ↦ signed_none bytes c.args.at start rest w.if-start-bytes.false
    ] in
    found_later cut_number (signed_from (drop c.args.at bytes)) (and_then natural_from (gives pos) (drop start bytes))
    bytes c.args.at start c.unsigned.result plain c.past_separators-start.ensures.behind c.unsigned.ensures.answers

pub returns-clause-further : goal.returns-clause-further
returns-clause-further c =
    ends_later c.args.at c.past_separators-start.result c.unsigned.result c.past_separators-start.ensures.behind
    c.unsigned.ensures.further
