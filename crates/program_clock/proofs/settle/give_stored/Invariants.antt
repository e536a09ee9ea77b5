use Rattle.mp_program.specs.Names.{is_stored}
use Rattle.program_clock.proofs.KindValues.{stored_value}
use Rattle.program_clock.proofs.Placing.{WrittenTo}
use Rattle.program_clock.proofs.settle.give_stored.Given as goal

abbrev pub invariant-loop-k : goal.invariant-loop-k
invariant-loop-k l =
    WrittenTo is_stored l.program.defs l.env l.initial.env (stored_value l.program.defs l.stored) l.k
