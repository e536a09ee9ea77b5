use Rattle.std.proofs.Common.{Option, Some, Result, Ok, subst}
use Rattle.mp_program.specs.Pads.{ArePadsOf}
use Rattle.mp_checker.specs.Checking.{CheckedProgram}
use Rattle.outside.specs.Outside.{Files, bytes_of}
use Rattle.stimulus.specs.declared.given.Stimulus.{Stimulus}
use Rattle.outcome.specs.declared.halt.Halt.{Halt}
use Rattle.outcome.specs.Order.{Fault}
use Rattle.source_files.specs.Faults.{SourceFault, StimulusFault, PadsFault}
use Rattle.outcome.proofs.Reasons.{reason_second, reason_map, reason_err, if_kept}
use Rattle.source_files.proofs.StimulusRules.{for_source}
use Rattle.source_files.proofs.prepared.prepare.Goals as goal

pub returns-in_err-stimulus-clause-reason : goal.returns-in_err-stimulus-clause-reason
returns-in_err-stimulus-clause-reason g c =
    let S : Files → Option Fault → Type 0 = SourceFault c.args.source.now in
    let F : Files → Option Fault → Type 0 = PadsFault (Some c.in_ok-checked.checked.pads) c.args.stimulus.now in
    let G : Files → Option Fault
    → Type 0 = λ files. StimulusFault (bytes_of files c.args.source.now) c.args.stimulus.now files in
    let kept = c.in_err-stimulus.ensures.held in
    let source = if_kept _ _ _ kept c.in_ok-checked.ensures.source in
    reason_second S G _ _ _ _ _ c.from_residual-in_err-stimulus.result kept c.in_ok-checked.ensures.reason.0
    c.in_ok-checked.ensures.reason.1
    (reason_map F G _ _ _ c.from_residual-in_err-stimulus.result
    (for_source c.in_ok-checked.checked c.args.stimulus.now _
    (subst (λ (x : CheckedProgram). ArePadsOf x.program x.pads) c.checked.view_is c.checked.invariant.padded)
    c.args.source.now source)
    (reason_err F _ _ _ _ c.from_residual-in_err-stimulus.result c.from_residual-in_err-stimulus.ensures.1
    c.in_err-stimulus.ensures.reason))

pub returns-clause-reason : goal.returns-clause-reason
returns-clause-reason g c =
    let S : Files → Option Fault → Type 0 = SourceFault c.args.source.now in
    let F : Files → Option Fault → Type 0 = PadsFault (Some c.in_ok-checked.checked.pads) c.args.stimulus.now in
    let G : Files → Option Fault
    → Type 0 = λ files. StimulusFault (bytes_of files c.args.source.now) c.args.stimulus.now files in
    let ok : Result Stimulus Halt = Ok c.in_ok-stimulus.stimulus in
    let kept = c.in_ok-stimulus.ensures.held in
    let source = if_kept _ _ _ kept c.in_ok-checked.ensures.source in
    reason_second S G _ _ _ _ _ ok kept c.in_ok-checked.ensures.reason.0 c.in_ok-checked.ensures.reason.1
    (reason_map F G _ _ _ ok
    (for_source c.in_ok-checked.checked c.args.stimulus.now _
    (subst (λ (x : CheckedProgram). ArePadsOf x.program x.pads) c.checked.view_is c.checked.invariant.padded)
    c.args.source.now source) c.in_ok-stimulus.ensures.reason)
