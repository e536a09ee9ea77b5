use Rattle.std.proofs.Common.{arith}
use Rattle.form_effects.proofs.Gathering.{more}
use Rattle.form_effects.proofs.written.written_by.Goals as goal

pub loop-form-preserved : goal.loop-form-preserved
loop-form-preserved c =
    rw c.join-all.ensures (rw c.gather-more.ensures
    (more c.args.program.now c.args.env.now c.args.target c.args.forms.now c.loop-form.form-index c.loop-form.all _
    (omega arith) c.loop-form.invariant))
