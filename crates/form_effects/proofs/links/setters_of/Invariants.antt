use Rattle.std.proofs.Common.{◌≡◌, take}
use Rattle.std.specs.Prelude.{filter}
use Rattle.mp_program.specs.Reads.{sets}
use Rattle.form_effects.proofs.links.setters_of.Given as goal

abbrev pub invariant-loop-form : goal.invariant-loop-form
invariant-loop-form l = l.list ≡ filter (sets l.program l.name) (take l.form-index l.program.always)
