-- The jump that a process takes.
use Rattle.std.specs.Prelude.{List, [], ◌∷◌, Option, Some, None}
use Rattle.mp_program.specs.declared.program.Process.{Process}
use Rattle.mp_program.specs.Effects.{Effect, Writes, Goes, Calls, Returns}
use Rattle.mp_program.specs.Step.{place_of_label}
use Rattle.form_effects.specs.declared.jump.Jump.{Jump}
use Rattle.form_effects.specs.declared.jump.Jump.TheVariants.{To, Into, Back}

-- the first move of a process among its effects
abbrev pub jump_from : Process → List Effect → Option Jump
jump_from q [] = None
jump_from q (Writes x v ∷ es) = jump_from q es
jump_from q (Goes l ∷ es) = Some (To (place_of_label q q.labels l))
jump_from q (Calls l ∷ es) = Some (Into (place_of_label q q.labels l))
jump_from q (Returns ∷ es) = Some Back
