use Rattle.std.proofs.Common.{◌≡◌, ℕ, length, get_or, take, ap, ◌∙◌, arith, min}
use Rattle.std.specs.List.{sum_by}
use Rattle.mp_base.proofs.Lists.{take_whole}
use Rattle.mp_program.specs.declared.program.Form.{Form}
use Rattle.mp_program.specs.Weight.{form_weight}
use Rattle.mp_weight.proofs.Capping.{sum_more}
use Rattle.mp_weight.proofs.weight.forms_weight.Goals as goal

pub loop-form-init : goal.loop-form-init
loop-form-init c = omega arith

pub loop-form-preserved : goal.loop-form-preserved
loop-form-preserved c =
    let term : Form → ℕ = λ f. form_weight f.kind in
    let same : c.form_weight.result
    ≡ min c.args.cap (term (get_or c.as_slice-form-items.result.now c.loop-form.form-index c.form-item.result)) =
    c.form_weight.ensures ∙ ap (λ f. min c.args.cap (term f)) c.form-item.is in
    sum_more term c.args.cap c.as_slice-form-items.result.now c.loop-form.form-index c.form-item.result
    c.loop-form.weight c.form_weight.result c.plus-weight.result
    c.loop-form-test.true c.loop-form.invariant (omega (arith, same)) c.plus-weight.ensures

pub returns : goal.returns
returns c =
    let term : Form → ℕ = λ f. form_weight f.kind in
    let end : c.loop-form.form-index ≡ length c.as_slice-form-items.result.now = omega arith in
    c.loop-form.invariant
    ∙ ap (λ fs. min c.args.cap (sum_by term fs))
    (ap (λ k. take k c.as_slice-form-items.result.now) end ∙ take_whole c.as_slice-form-items.result.now
    ∙ c.as_slice-form-items.ensures)
