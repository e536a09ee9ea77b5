use Rattle.source_files.proofs.FirstFault.{one_of_source, one_of_run, one_of_headed}
use Rattle.source_files.proofs.laws.one_fault.Goals as goal

pub returns-clause-source : goal.returns-clause-source
returns-clause-source c = λ source files. one_of_source (record {
  source = c.one_source.ensures;
  verdict = c.one_verdict.ensures;
  first = c.one_first_rule.ensures.first;
  whole = c.one_first_rule.ensures.whole;
}) files source

pub returns-clause-run : goal.returns-clause-run
returns-clause-run c = λ source stimulus files. one_of_run (record {
  source = c.one_source.ensures;
  verdict = c.one_verdict.ensures;
  first = c.one_first_rule.ensures.first;
  whole = c.one_first_rule.ensures.whole;
}) files source stimulus

pub returns-clause-headed : goal.returns-clause-headed
returns-clause-headed c = λ stimulus files. one_of_headed (record {
  source = c.one_source.ensures;
  verdict = c.one_verdict.ensures;
  first = c.one_first_rule.ensures.first;
  whole = c.one_first_rule.ensures.whole;
}) files stimulus
