use Rattle.std.proofs.Common.{◌≡◌, take}
use Rattle.std.specs.Prelude.{map}
use Rattle.mp_program.specs.Names.{is_input, is_output}
use Rattle.mp_program.specs.Pads.{face}
use Rattle.mp_checker.proofs.Padded.{faces}
use Rattle.mp_checker.proofs.pads.pads_of.Given as goal

abbrev pub invariant-loop-def : goal.invariant-loop-def
invariant-loop-def l = record {
  inputs : map face l.inputs ≡ faces is_input l.program.width (take l.def-index l.defs);
  outputs : map face l.outputs ≡ faces is_output l.program.width (take l.def-index l.defs);
}
