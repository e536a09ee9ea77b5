use Rattle.std.proofs.Common.{take}
use Rattle.std.specs.List.{filter_map}
use Rattle.mp_written.specs.declared.program.Def.{Def}
use Rattle.mp_written.specs.Functions.{function_of}
use Rattle.written_meanings.specs.Functions.{AreFunctions}
use Rattle.written_meanings.proofs.functions.Functions.of.Given as goal

abbrev pub invariant-loop-def : goal.invariant-loop-def
invariant-loop-def l = AreFunctions (filter_map (λ (d : Def). function_of d d.what)
    (take l.def-index l.defs)) l.functions
