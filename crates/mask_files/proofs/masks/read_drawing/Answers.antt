use Rattle.mask_net.specs.Masks.{OfDrawing}
use Rattle.mask_files.specs.declared.limits.TheConstants.{MASK_LIMIT}
use Rattle.mask_files.specs.Faults.{DrawingFault}
use Rattle.outcome.proofs.Reasons.{judged_err, judged_ok, reason_err}
use Rattle.mask_files.proofs.masks.read_drawing.Goals as goal

pub returns-in_err-drawing_of-clause-reason : goal.returns-in_err-drawing_of-clause-reason
returns-in_err-drawing_of-clause-reason g c =
    reason_err (DrawingFault c.args.name.now) _ _ _ _ c.from_residual-in_err-drawing_of.result
    c.from_residual-in_err-drawing_of.ensures.1
    (judged_err MASK_LIMIT OfDrawing c.args.name.now c.in_ok-text.text.items _ _ _ c.in_ok-text.ensures.text
    c.in_ok-text.ensures.reason c.in_err-drawing_of.field-0.0 c.in_err-drawing_of.ensures.judged)

pub returns-clause-reason : goal.returns-clause-reason
returns-clause-reason g c =
    judged_ok MASK_LIMIT OfDrawing c.args.name.now c.in_ok-text.text.items _ _ _ c.in_ok-text.ensures.text
    c.in_ok-text.ensures.reason
    (c.in_ok-drawing_of.field-0.shapes, c.in_ok-drawing_of.field-0.labels, c.in_ok-drawing_of.ensures.ok)
