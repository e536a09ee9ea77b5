use Rattle.std.proofs.Common.{map}
use Rattle.mp_program.specs.Step.{next_seats}
use Rattle.program_clock.specs.Remembered.{seat_of}
use Rattle.program_clock.proofs.Making.{MadeTo}
use Rattle.program_clock.proofs.Seating.{no_seat}
use Rattle.program_clock.proofs.seats.advance_seats.Given as goal

abbrev pub invariant-loop-i : goal.invariant-loop-i
invariant-loop-i l =
    MadeTo (map seat_of l.seats) (next_seats l.program l.env l.program.processes (map seat_of l.initial.seats))
    (map seat_of l.initial.seats) no_seat l.i
