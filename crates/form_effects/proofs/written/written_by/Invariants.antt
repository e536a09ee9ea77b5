use Rattle.std.proofs.Common.{◌≡◌, drop}
use Rattle.std.specs.List.{flat_map}
use Rattle.mp_base.specs.Merge.{join, merged}
use Rattle.mp_program.specs.Effects.{effects_of}
use Rattle.form_effects.specs.Written.{written_at}
use Rattle.form_effects.proofs.written.written_by.Given as goal

abbrev pub invariant-loop-form : goal.invariant-loop-form
invariant-loop-form l =
    merged (written_at l.program.defs l.target (flat_map (effects_of l.program l.env) l.forms))
    ≡ join l.all
    (merged (written_at l.program.defs l.target (flat_map (effects_of l.program l.env) (drop l.form-index l.forms))))
