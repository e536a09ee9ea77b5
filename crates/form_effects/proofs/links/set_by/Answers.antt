use Rattle.std.proofs.Common.{ap, ◌∙◌}
use Rattle.mp_program.specs.declared.program.Form.{Form}
use Rattle.form_effects.specs.Linked.{target}
use Rattle.form_effects.proofs.Entries.{made_more}
use Rattle.form_effects.proofs.links.set_by.Goals as goal

pub loop-form-preserved : goal.loop-form-preserved
loop-form-preserved c =
    c.in_ok-push.ensures.items
    ∙ made_more (λ (x : Form). target c.args.program.now.defs x.kind) c.as_slice-form-items.result.now
    c.args.program.now.forms
    c.loop-form.list.items c.loop-form.form-index c.form-item.result c.target.result
    c.as_slice-form-items.ensures c.loop-form-test.true c.form-item.is
    (c.target.ensures ∙ ap (λ defs. target defs c.form-item.result.kind) c.as_slice.ensures) c.loop-form.invariant
