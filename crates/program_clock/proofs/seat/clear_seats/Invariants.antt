use Rattle.std.proofs.Common.{map}
use Rattle.program_clock.specs.Remembered.{seat_of, emptied}
use Rattle.program_clock.proofs.Making.{MadeTo}
use Rattle.program_clock.proofs.Seating.{no_seat}
use Rattle.program_clock.proofs.seat.clear_seats.Given as goal

abbrev pub invariant-loop-i : goal.invariant-loop-i
invariant-loop-i l =
    MadeTo (map seat_of l.seats) (map emptied (map seat_of l.initial.seats)) (map seat_of l.initial.seats) no_seat l.i
