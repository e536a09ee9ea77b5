use Rattle.mp_source.proofs.Verdict.{one_verdict}
use Rattle.mp_source.proofs.laws.one_verdict.Goals as goal

pub returns : goal.returns
returns c = one_verdict (record {
  one_spelling = c.one_spelling.ensures;
  one_program = c.one_program.ensures;
  clean = c.spelled_breaks_nothing.ensures;
  shaped = c.shaped_is_unbroken.ensures;
  first_of_text = c.one_first_rule.ensures;
  first_of_program = c.one_first_rule-2.ensures;
})
