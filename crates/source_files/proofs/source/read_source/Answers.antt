use Rattle.std.proofs.Common.{subst, Err}
use Rattle.source_files.specs.declared.limits.TheConstants.{TEXT_LIMIT}
use Rattle.mp_checker.specs.Checking.{CheckedProgram}
use Rattle.mp_source.specs.Source.{OfSource}
use Rattle.source_files.specs.Faults.{SourceFault}
use Rattle.mp_base.specs.Refuses.{IsJudged}
use Rattle.outcome.proofs.Reasons.{judged_err, judged_ok, reason_err}
use Rattle.source_files.proofs.source.read_source.Goals as goal

pub returns-in_err-check_source-clause-reason : goal.returns-in_err-check_source-clause-reason
returns-in_err-check_source-clause-reason g c =
    reason_err (SourceFault c.args.name.now) _ _ _ _ c.from_residual-in_err-check_source.result
    c.from_residual-in_err-check_source.ensures.1
    (judged_err TEXT_LIMIT OfSource c.args.name.now c.in_ok-text.text.items _ _ _ c.in_ok-text.ensures.text
    c.in_ok-text.ensures.reason c.in_err-check_source.field-0.0
    (subst (λ text. IsJudged {T = CheckedProgram} (OfSource text) (Err c.in_err-check_source.field-0.0))
    c.deref.ensures.value c.in_err-check_source.ensures.judged))

pub returns-clause-reason : goal.returns-clause-reason
returns-clause-reason g c =
    judged_ok TEXT_LIMIT OfSource c.args.name.now c.in_ok-text.text.items _ _ _ c.in_ok-text.ensures.text
    c.in_ok-text.ensures.reason
    (rw c.deref.ensures.value at c.in_ok-check_source.ensures.judged)
