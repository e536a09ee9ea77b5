use Rattle.std.proofs.Common.{Some}
use Rattle.source_files.specs.declared.limits.TheConstants.{TEXT_LIMIT}
use Rattle.stimulus.specs.Reading.{OfPads}
use Rattle.outcome.proofs.Reasons.{judged_ok}
use Rattle.source_files.proofs.stimuli.read_stimulus.Goals as goal

pub returns-clause-reason : goal.returns-clause-reason
returns-clause-reason g c =
    judged_ok TEXT_LIMIT (OfPads (Some c.args.checked.now.pads)) c.args.name.now c.in_ok-text.text.items _ _ _
    c.in_ok-text.ensures.text c.in_ok-text.ensures.reason
    (rw c.deref.ensures.value at c.in_ok-check_stimulus.ensures.judged)
