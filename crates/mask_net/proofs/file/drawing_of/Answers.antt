use Rattle.mask_net.specs.Masks.{OfDrawing}
use Rattle.mask_net.proofs.Steps.{handed_on, of_commands, of_text}
use Rattle.mask_net.proofs.file.drawing_of.Goals as goal

pub returns-in_err-cif-clause-judged : goal.returns-in_err-cif-clause-judged
returns-in_err-cif-clause-judged c =
    let bytes = c.args.bytes.items in
    handed_on (OfDrawing bytes) c.in_err-cif.field-0.0 c.from_residual.result c.from_residual.ensures.1
    (of_text bytes c.in_err-cif.field-0.0 c.in_err-cif.ensures.judged)

pub returns-clause-judged : goal.returns-clause-judged
returns-clause-judged c =
    of_commands c.args.bytes.items c.in_ok-cif.cif c.flatten.result c.in_ok-cif.ensures.ok c.walk_is_expansion.ensures
    c.flatten.ensures.judged
