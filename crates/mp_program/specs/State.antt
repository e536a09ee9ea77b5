-- The state of a program between clocks.
use Rattle.std.specs.Prelude.{◌≡◌, ℕ, ◌<◌, List, [], ◌∷◌, ◌++◌, length, map, replicate, slice_index}
use Rattle.std.specs.List.{AllByRecursion}
use Rattle.mp_program.specs.declared.program.Process.{Process}
use Rattle.mp_program.specs.declared.program.Program.{Program}

-- where a process is: the place of one of its forms, and the places that its calls return to
pub record Seat : Type 0 where
  pub place : ℕ
  pub stack : List ℕ

-- a value for each definition, which is 0 for those that are not stored, and a seat for each process
pub record State : Type 0 where
  pub stored : List ℕ
  pub seats : List Seat

-- each process is at a place of its own, and its stack has as many of its places as it is deep
abbrev pub SeatsFit : List Process → List Seat → Type 0
SeatsFit [] [] = Unit {0}
SeatsFit [] (s ∷ ss) = ⊥
SeatsFit (q ∷ qs) [] = ⊥
SeatsFit (q ∷ qs) (s ∷ ss) =
    (s.place < length q.forms) × (length s.stack ≡ q.depth) × AllByRecursion (λ k. k < length q.forms) s.stack
    × SeatsFit qs ss

-- a state of this program
pub record IsState (p : Program) (st : State) : Type 0 where
  pub size : length st.stored ≡ length p.defs
  pub seats : SeatsFit p.processes st.seats

abbrev pub zero_seat : Process → Seat
zero_seat q = record { place = 0; stack = replicate q.depth 0 }

-- all values, places and stacks are 0
abbrev pub zero_state : Program → State
zero_state p = record { stored = replicate (length p.defs) 0; seats = map zero_seat p.processes }

-- the one form of each process that is active
abbrev pub places_taken : List Process → List Seat → List ℕ
places_taken [] ss = []
places_taken (q ∷ qs) [] = []
places_taken (q ∷ qs) (s ∷ ss) = slice_index q.forms s.place ∷ places_taken qs ss

-- the active top-level forms: all that are always active, and one of each process
abbrev pub active : Program → State → List ℕ
active p st = p.always ++ places_taken p.processes st.seats
