use Rattle.std.proofs.Common.{◌≡◌, map, take}
use Rattle.mp_program.specs.State.{zero_seat}
use Rattle.program_clock.specs.Remembered.{seat_of}
use Rattle.program_clock.proofs.seat.zero_seats.Given as goal

abbrev pub invariant-loop-process : goal.invariant-loop-process
invariant-loop-process l = map seat_of l.list.items ≡ map zero_seat (take l.process-index l.processes)
