-- The state that a memory has.
use Rattle.std.specs.Prelude.{length, map, replicate}
use Rattle.mp_program.specs.State as states
use Rattle.program_clock.specs.declared.seat.Seat.{Seat}
use Rattle.program_clock.specs.declared.seat.Memory.{Memory}

abbrev pub seat_of : Seat → states.Seat
seat_of s = record { place = s.place; stack = s.stack.items }

abbrev pub state_of : Memory → states.State
state_of m = record { stored = m.stored.items; seats = map seat_of m.seats.items }

-- a seat at place 0 with a stack of as many places 0
abbrev pub emptied : states.Seat → states.Seat
emptied s = record { place = 0; stack = replicate (length s.stack) 0 }
