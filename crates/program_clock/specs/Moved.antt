-- Where a process is after a move.
use Rattle.std.specs.Prelude.{◌+◌, [], ◌∷◌, ◌++◌, Option, Some, None, take, drop, slice_index}
use Rattle.mp_program.specs.declared.program.Process.{Process}
use Rattle.mp_program.specs.State.{Seat}
use Rattle.mp_program.specs.Step.{wrapped}
use Rattle.form_effects.specs.declared.jump.Jump.{Jump}
use Rattle.form_effects.specs.declared.jump.Jump.TheVariants.{To, Into, Back}

-- where a process is after a jump, or without one
abbrev pub seat_after : Process → Seat → Option Jump → Seat
seat_after q s None = record { place = wrapped q (s.place + 1); stack = s.stack }
seat_after q s (Some (To place)) = record { place = place; stack = s.stack }
seat_after q s (Some (Into place)) = record { place = place; stack = take q.depth (wrapped q (s.place + 1) ∷ s.stack) }
seat_after q s (Some Back) = record { place = slice_index s.stack 0; stack = take q.depth (drop 1 s.stack ++ 0 ∷ []) }
