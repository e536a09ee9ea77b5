use Rattle.std.proofs.Common.{sym, subst₂}
use Rattle.mask_net.specs.Masks.{IsDrawing, OfMask}
use Rattle.mask_net.proofs.Steps.{handed_on, of_drawing, of_shapes}
use Rattle.mask_net.proofs.file.network_in.Goals as goal

pub returns-in_err-flat-clause-judged : goal.returns-in_err-flat-clause-judged
returns-in_err-flat-clause-judged c =
    let bytes = c.args.bytes.now in
    handed_on (OfMask bytes) c.in_err-flat.field-0.0 c.from_residual.result c.from_residual.ensures.1
    (of_drawing bytes c.in_err-flat.field-0.0 c.in_err-flat.ensures.judged)

pub returns-clause-judged : goal.returns-clause-judged
returns-clause-judged c =
    let shapes = c.as_slice.result.now in
    let labels = c.as_slice-2.result.now in
    let drawing = subst₂ (IsDrawing c.args.bytes.now) (sym c.as_slice.ensures) (sym c.as_slice-2.ensures)
    c.in_ok-flat.ensures.ok in
    of_shapes c.args.bytes.now shapes labels c.extract.result drawing c.extract.ensures.judged
