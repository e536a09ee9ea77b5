use Rattle.std.proofs.Common.{refl}
use Rattle.written_frame.proofs.Frames.{parts_fit}
use Rattle.written_frame.proofs.framing.frame.Goals as goal

pub invariant_of-result : goal.invariant_of-result
invariant_of-result c =
    let w = c.args.program.now in
    let fit = parts_fit w (
      w.place,
      c.in_ok-name.field-0,
      w.width,
      c.in_ok-defs.defs,
      c.in_ok-exprs.exprs,
      c.in_ok-forms.forms,
      c.in_ok-always.always,
      c.in_ok-processes.processes,
    ) refl c.in_ok-name.ensures refl c.in_ok-defs.ensures c.in_ok-exprs.ensures c.in_ok-forms.ensures
    c.in_ok-always.ensures c.in_ok-processes.ensures in
    record { fits = fit.0; tree = fit.1 }
