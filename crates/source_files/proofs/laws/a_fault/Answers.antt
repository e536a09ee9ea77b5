use Rattle.source_files.proofs.Existence.{some_of_headed, some_of_run, some_of_source}
use Rattle.source_files.proofs.laws.a_fault.Goals as goal

pub returns-clause-source : goal.returns-clause-source
returns-clause-source c = λ source files. some_of_source (record {
  source = c.source_verdict.ensures;
  stimulus = c.stimulus_verdict.ensures;
}) files source

pub returns-clause-run : goal.returns-clause-run
returns-clause-run c = λ source stimulus files. some_of_run (record {
  source = c.source_verdict.ensures;
  stimulus = c.stimulus_verdict.ensures;
}) files source stimulus

pub returns-clause-headed : goal.returns-clause-headed
returns-clause-headed c = λ stimulus files. some_of_headed (record {
  source = c.source_verdict.ensures;
  stimulus = c.stimulus_verdict.ensures;
}) files stimulus
