use Rattle.std.proofs.Common.{◌≡◌, take, min}
use Rattle.std.specs.List.{sum_by}
use Rattle.mp_program.specs.declared.program.Form.{Form}
use Rattle.mp_program.specs.Weight.{form_weight}
use Rattle.mp_weight.proofs.weight.forms_weight.Given as goal

abbrev pub invariant-loop-form : goal.invariant-loop-form
invariant-loop-form l =
    l.weight ≡ min l.cap (sum_by (λ (f : Form). form_weight f.kind) (take l.form-index l.form-items))
