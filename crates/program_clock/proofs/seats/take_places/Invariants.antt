use Rattle.std.proofs.Common.{map}
use Rattle.mp_program.specs.State.{places_taken}
use Rattle.program_clock.specs.Remembered.{seat_of}
use Rattle.program_clock.proofs.Making.{MadeTo}
use Rattle.program_clock.proofs.seats.take_places.Given as goal

abbrev pub invariant-loop-i : goal.invariant-loop-i
invariant-loop-i l = MadeTo l.places (places_taken l.program.processes (map seat_of l.seats)) l.initial.places 0 l.i
