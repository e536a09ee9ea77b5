use Rattle.std.proofs.Common.{◌+◌, ◌∙◌, ap, sym, length, ◌++◌, [], ◌∷◌, false, ◌≡◌, get_or, true}
use Rattle.std.specs.Prelude.{slice_range}
use Rattle.std.proofs.lemmas.List.{take_rest}
use Rattle.form_reader.specs.Text.{is_gap, fills_gap}
use Rattle.form_reader.proofs.Scan.{gap_more, gap_done, closes, not_in_comment, own_place, offset_of}
use Rattle.form_reader.proofs.text.skip.Goals as goal

pub loop-i-preserved : goal.loop-i-preserved
loop-i-preserved c =
    let xs = c.args.bytes.now in
    let fills : fills_gap c.loop-i.comment (get_or xs c.loop-i.i 0) ≡ true =
    sym c.fills_gap.ensures ∙ c.if-not-fills_gap.false in
    record {
      gap = gap_more xs c.args.from.offset c.loop-i.i c.loop-i.comment c.comment_behind-comment.result c.loop-i.auto.i
          c.loop-i-test.true c.loop-i.invariant.gap fills c.comment_behind-comment.ensures;
      offset = offset_of xs c.behind-place.result _ c.behind-place.ensures ∙ ap (λ z. z + 1) c.loop-i.invariant.offset;
      place = own_place xs c.behind-place.result _ c.behind-place.ensures;
    }

pub returns-then-not-fills_gap-clause-gap : goal.returns-then-not-fills_gap-clause-gap
returns-then-not-fills_gap-clause-gap c = λ lt.
    let xs = c.args.bytes.now in
    let stops : fills_gap c.loop-i.comment (get_or xs c.loop-i.i 0) ≡ false =
    sym c.fills_gap.ensures ∙ c.if-not-fills_gap.true in
    ap (λ z. is_gap false (slice_range xs c.args.from.offset z)) c.loop-i.invariant.offset
    ∙ gap_done xs c.args.from.offset c.loop-i.i
    (λ tail. c.loop-i.invariant.gap tail
    ∙ ap (λ z. is_gap z tail) (not_in_comment c.loop-i.comment (get_or xs c.loop-i.i 0) stops))

pub returns-clause-rest : goal.returns-clause-rest
returns-clause-rest c = λ end.
    let xs = c.args.bytes.now in
    let whole : c.loop-i.i ≡ length xs = sym c.loop-i.invariant.offset ∙ end in
    ap (λ z. is_gap false (z ++ 10 ∷ [])) (sym (take_rest xs c.args.from.offset))
    ∙ ap (λ z. is_gap false (slice_range xs c.args.from.offset z ++ 10 ∷ [])) (sym whole)
    ∙ c.loop-i.invariant.gap (10 ∷ []) ∙ closes c.loop-i.comment
