use Rattle.std.proofs.Common.{None, Some}
use Rattle.source_files.specs.Stimulus.{OfStimulus}
use Rattle.lint.specs.Verdict.{OfHeld, fault_of}
use Rattle.lint.proofs.Held.{for_source, told}
use Rattle.lint.proofs.report.lint_stimulus.Goals as goal

pub returns-in-Ok : goal.returns-in-Ok
returns-in-Ok c =
    let source = c.args.source.bytes.now in
    told (λ x. OfHeld (OfStimulus source) c.args.file (fault_of x)) c.lint_both.result None
    (for_source source c.args.checked.now.program c.pads-pads.result.now c.args.file None c.requires
    c.pads-pads.ensures.padded c.in-Ok.ensures)
    c.lint_both.ensures

pub returns-in-Err-Broken : goal.returns-in-Err-Broken
returns-in-Err-Broken c =
    let source = c.args.source.bytes.now in
    let b = c.in-Err-Broken.broken in
    let held = rw c.in-Err-Broken.field-0-is at c.in-Err-Broken.ensures in
    told (λ x. OfHeld (OfStimulus source) c.args.file (fault_of x)) c.refused_stimulus.result (Some b)
    (for_source source c.args.checked.now.program c.pads-pads.result.now c.args.file (Some b) c.requires
    c.pads-pads.ensures.padded held)
    c.refused_stimulus.ensures
