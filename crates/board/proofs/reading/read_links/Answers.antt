use Rattle.std.proofs.Common.{◌∙◌, ap, arith, map, string_bytes, take}
use Rattle.std.proofs.lemmas.List.{length-map}
use Rattle.std.proofs.lemmas.Result.{err_from_is_err_and}
use Rattle.board.proofs.Words.{link_added, parts_of, refused_at, wires_of}
use Rattle.board.proofs.reading.read_links.Goals as goal

pub returns-in_err-link-clause-judged : goal.returns-in_err-link-clause-judged
returns-in_err-link-clause-judged g c =
    let p = err_from_is_err_and c.from_residual.result c.from_residual.ensures.1 in
    rw (p.1, p.2) (refused_at _ c.args.pads.now string_bytes c.args.words.now c.loop-word.word-index c.word-item.result
    c.as_str.result.now c.loop-word-test.true (c.as_str.ensures.value ∙ ap string_bytes c.word-item.is)
    c.loop-word.links c.in_err-link.field-0.0 (rw c.as_slice.ensures at c.in_err-link.ensures.err)
    c.loop-word.invariant)

pub loop-word-preserved : goal.loop-word-preserved
loop-word-preserved g c =
    link_added _ c.args.pads.now string_bytes c.args.words.now c.loop-word.word-index c.word-item.result
    c.as_str.result.now c.loop-word-test.true (c.as_str.ensures.value ∙ ap string_bytes c.word-item.is)
    c.loop-word.links c.push.new.self c.in_ok-link.link (rw c.as_slice.ensures at c.in_ok-link.ensures.ok)
    c.in_ok-push.ensures.ok c.loop-word.invariant

pub returns-clause-wires : goal.returns-clause-wires
returns-clause-wires g c =
    wires_of _ c.args.pads.now (map string_bytes (take c.loop-word.word-index c.args.words.now)) c.loop-word.links
    c.loop-word.invariant

pub returns-clause-parts : goal.returns-clause-parts
returns-clause-parts g c k d lt =
    let h = parts_of _ c.args.pads.now (map string_bytes (take c.loop-word.word-index c.args.words.now))
    c.loop-word.links
    c.loop-word.invariant k d lt in
    omega (arith, h, length-map c.args.parts.now (λ p. string_bytes p.name))
