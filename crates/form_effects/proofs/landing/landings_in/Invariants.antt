use Rattle.std.proofs.Common.{◌≡◌, map, take}
use Rattle.mp_program.specs.declared.program.Form.{Form}
use Rattle.form_effects.specs.Linked.{landing_place}
use Rattle.form_effects.proofs.landing.landings_in.Given as goal

abbrev pub invariant-loop-form : goal.invariant-loop-form
invariant-loop-form l = l.list ≡ map (λ (x : Form). landing_place l.process x.kind) (take l.form-index l.program.forms)
