use Rattle.std.proofs.Common.{None, Some}
use Rattle.lint.specs.Verdict.{OfTexts, fault_of}
use Rattle.lint.proofs.Held.{further, of_source, told}
use Rattle.lint.proofs.report.lint.Goals as goal

pub returns-in-Err-Broken : goal.returns-in-Err-Broken
returns-in-Err-Broken c =
    let b = c.in-Err-Broken.broken in
    let held = rw c.in-Err-Broken.field-0-is at c.in-Err-Broken.ensures.judged in
    told (λ x. OfTexts c.args.source c.args.stimulus (fault_of x)) c.refused_source.result (Some b)
    (of_source c.args.source c.args.stimulus b held) c.refused_source.ensures

pub returns-in-None : goal.returns-in-None
returns-in-None c =
    rw c.in-None.is
    (told (λ x. OfTexts c.args.source None (fault_of x)) c.lint_source.result None c.in-Ok.ensures.judged
    c.lint_source.ensures)

pub returns : goal.returns
returns c =
    rw c.in-Some.is
    (further c.args.source c.in-Some.file c.lint_stimulus.result c.in-Ok.ensures.judged c.lint_stimulus.ensures)
