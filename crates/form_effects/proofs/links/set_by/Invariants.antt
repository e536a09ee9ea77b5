use Rattle.std.proofs.Common.{◌≡◌, map, take}
use Rattle.mp_program.specs.declared.program.Form.{Form}
use Rattle.form_effects.specs.Linked.{target}
use Rattle.form_effects.proofs.links.set_by.Given as goal

abbrev pub invariant-loop-form : goal.invariant-loop-form
invariant-loop-form l =
    l.list.items ≡ map (λ (x : Form). target l.program.defs x.kind) (take l.form-index l.program.forms)
