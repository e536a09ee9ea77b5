use Rattle.std.proofs.Common.{◌≡◌, map, take}
use Rattle.mp_program.specs.declared.program.Def.{Def}
use Rattle.form_effects.specs.Linked.{setters_of}
use Rattle.form_effects.proofs.links.setters.Given as goal

abbrev pub invariant-loop-def : goal.invariant-loop-def
invariant-loop-def l = l.list ≡ map (λ (x : Def). setters_of l.program x.name) (take l.def-index l.program.defs)
