use Rattle.std.proofs.Common.{◌≡◌, length}
use Rattle.mp_program.specs.Step.{outputs_of}
use Rattle.program_clock.proofs.Making.{MadeTo}
use Rattle.program_clock.proofs.step.show.Given as goal

abbrev pub invariant-loop-pad : goal.invariant-loop-pad
invariant-loop-pad l = record {
  size : length l.outputs ≡ length l.initial.outputs;
  made : MadeTo l.outputs (outputs_of l.program.defs l.env) l.initial.outputs 0 l.pad;
}
