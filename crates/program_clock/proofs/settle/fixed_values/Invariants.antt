use Rattle.std.proofs.Common.{◌≡◌, map, take}
use Rattle.mp_program.specs.declared.program.Def.{Def}
use Rattle.mp_program.specs.Environment.{what_value}
use Rattle.program_clock.proofs.settle.fixed_values.Given as goal

abbrev pub invariant-loop-def : goal.invariant-loop-def
invariant-loop-def l =
    l.env.items ≡ map (λ (x : Def). what_value x.what 0 0 0) (take l.def-index l.defs)
