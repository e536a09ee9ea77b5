use Rattle.std.proofs.Common.{None}
use Rattle.source_files.specs.declared.limits.TheConstants.{TEXT_LIMIT}
use Rattle.stimulus.specs.Reading.{OfPads}
use Rattle.source_files.proofs.Clocks.{few_clocks}
use Rattle.source_files.proofs.Headers.{few_inputs}
use Rattle.outcome.proofs.Reasons.{judged_ok}
use Rattle.source_files.proofs.stimuli.read_headed.Goals as goal

pub returns-clause-reason : goal.returns-clause-reason
returns-clause-reason g c =
    judged_ok TEXT_LIMIT (OfPads None) c.args.name.now c.in_ok-text.text.items _ _ _ c.in_ok-text.ensures.text
    c.in_ok-text.ensures.reason
    (rw c.deref.ensures.value at c.in_ok-check_headed.ensures.judged)

pub returns-clause-few_inputs : goal.returns-clause-few_inputs
returns-clause-few_inputs g c = few_inputs _ c.in_ok-check_headed.field-0 c.in_ok-check_headed.ensures.read

pub returns-clause-few_clocks : goal.returns-clause-few_clocks
returns-clause-few_clocks g c = few_clocks _ None c.in_ok-check_headed.field-0 c.in_ok-check_headed.ensures.read
