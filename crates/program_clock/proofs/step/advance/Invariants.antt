use Rattle.std.proofs.Common.{◌++◌}
use Rattle.std.specs.List.{flat_map}
use Rattle.mp_program.specs.Effects.{effects_of}
use Rattle.mp_program.specs.Names.{is_stored}
use Rattle.mp_program.specs.Step.{next_stored}
use Rattle.program_clock.proofs.KindValues.{stored_value}
use Rattle.program_clock.proofs.Placing.{WrittenTo}
use Rattle.program_clock.proofs.step.advance.Given as goal

abbrev pub invariant-loop-k : goal.invariant-loop-k
invariant-loop-k l =
    WrittenTo is_stored l.program.defs l.stored l.initial.stored
    (stored_value l.program.defs
    (next_stored (flat_map (effects_of l.program l.env) (l.program.always ++ l.places)) 0 l.program.defs
    l.initial.stored))
    l.k
