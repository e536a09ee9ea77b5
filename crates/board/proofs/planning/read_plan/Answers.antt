use Rattle.std.proofs.Common.{ap, map, string_bytes, take, ◌∙◌}
use Rattle.std.proofs.lemmas.Result.{err_from_is_err_and}
use Rattle.board.proofs.Plans.{plan_broken, plan_more, whole_plan}
use Rattle.board.proofs.planning.read_plan.Goals as goal

pub returns-in_err-read_word-clause-judged : goal.returns-in_err-read_word-clause-judged
returns-in_err-read_word-clause-judged g c =
    let p = err_from_is_err_and c.from_residual.result c.from_residual.ensures.1 in
    rw (p.1, p.2) (plan_broken _ string_bytes c.args.words.now c.loop-word.word-index c.word-item.result
    c.as_str.result.now c.loop-word-test.true (c.as_str.ensures.value ∙ ap string_bytes c.word-item.is)
    c.loop-word.plan c.in_err-read_word.field-0.0 c.loop-word.invariant.plan c.in_err-read_word.ensures.err)

pub loop-word-preserved : goal.loop-word-preserved
loop-word-preserved g c = record {
  few = c.in_ok-read_word.ensures.few;
  plan = plan_more _ string_bytes c.args.words.now c.loop-word.word-index c.word-item.result c.as_str.result.now
      c.loop-word-test.true (c.as_str.ensures.value ∙ ap string_bytes c.word-item.is) c.loop-word.plan
      c.read_word.new.plan c.loop-word.invariant.plan c.in_ok-read_word.ensures.ok;
}

pub returns-clause-whole : goal.returns-clause-whole
returns-clause-whole g c =
    whole_plan _ (map string_bytes (take c.loop-word.word-index c.args.words.now)) c.loop-word.plan
    c.loop-word.invariant.plan
