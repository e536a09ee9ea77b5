use Rattle.std.specs.Prelude.{slice_index}
use Rattle.mp_program.specs.Names.{is_input}
use Rattle.program_clock.proofs.Placing.{WrittenTo}
use Rattle.program_clock.proofs.settle.give_inputs.Given as goal

abbrev pub invariant-loop-pad : goal.invariant-loop-pad
invariant-loop-pad l = WrittenTo is_input l.program.defs l.env l.initial.env (slice_index l.inputs) l.pad
