use Rattle.std.proofs.Common.{◌≡◌, take, min}
use Rattle.std.specs.List.{sum_by}
use Rattle.mp_program.specs.declared.program.Def.{Def}
use Rattle.mp_program.specs.Weight.{def_weight, sets_of}
use Rattle.mp_weight.proofs.defs.defs_weight.Given as goal

abbrev pub invariant-loop-d : goal.invariant-loop-d
invariant-loop-d l =
    l.weight ≡ min l.cap (sum_by (λ (d : Def). def_weight d.what (sets_of l.program d.name)) (take l.d l.def-items))
