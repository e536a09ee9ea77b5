use Rattle.std.proofs.Common.{◌∙◌}
use Rattle.mp_program.specs.declared.program.Form.{Form}
use Rattle.form_effects.specs.Linked.{landing_place}
use Rattle.form_effects.proofs.Entries.{made_more}
use Rattle.form_effects.proofs.landing.landings_in.Goals as goal

pub loop-form-preserved : goal.loop-form-preserved
loop-form-preserved c =
    c.in_ok-push.ensures.ok
    ∙ made_more (λ (x : Form). landing_place c.args.process.now x.kind) c.as_slice-form-items.result.now
    c.args.program.now.forms c.loop-form.list c.loop-form.form-index c.form-item.result c.landing_place.result
    c.as_slice-form-items.ensures c.loop-form-test.true c.form-item.is c.landing_place.ensures c.loop-form.invariant
