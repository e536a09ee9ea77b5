use Rattle.std.proofs.Common.{◌≡◌, map, take}
use Rattle.mp_program.specs.declared.program.Def.{Def}
use Rattle.mp_program.specs.Names.{index_of}
use Rattle.form_effects.proofs.links.firsts.Given as goal

abbrev pub invariant-loop-def : goal.invariant-loop-def
invariant-loop-def l =
    l.list.items ≡ map (λ (x : Def). index_of l.program.defs x.name) (take l.def-index l.program.defs)
