-- The state after a clock, and what the clock shows.
use Rattle.std.specs.Prelude.{ℕ, suc, ◌+◌, List, [], ◌∷◌, ◌++◌, if◌then◌else◌, nat_lt, ◌==◌, Bool, false, length, take}
use Rattle.std.specs.Prelude.{drop, position, slice_index, unwrap_or}
use Rattle.std.specs.Option.{option_map_or}
use Rattle.mp_base.specs.Merge.{merged}
use Rattle.mp_program.specs.declared.program.Def.{Def}
use Rattle.mp_program.specs.declared.program.Label.{Label}
use Rattle.mp_program.specs.declared.program.Process.{Process}
use Rattle.mp_program.specs.declared.program.Program.{Program}
use Rattle.mp_program.specs.Names.{is_same, is_output, is_stored, is_reset, pad_number}
use Rattle.mp_program.specs.Effects.{Effect, Writes, Goes, Calls, Returns, effects_of, written}
use Rattle.mp_program.specs.State.{Seat, State, zero_state}
use Rattle.mp_program.specs.Environment.{clock_effects}

-- what is stored for definitions from the index d on: what is written to them, or what was stored where nothing is
abbrev pub next_stored : List Effect → ℕ → List Def → List ℕ → List ℕ
next_stored es d [] stored = []
next_stored es d (x ∷ xs) stored =
    (if is_stored x.what then unwrap_or (merged (written x.name es)) (slice_index stored d) else 0)
    ∷ next_stored es (suc d) xs stored

-- a place, or 0 where it is past the last form
abbrev pub wrapped : Process → ℕ → ℕ
wrapped q place = if nat_lt place (length q.forms) then place else 0

-- the place of the form after a label
abbrev pub place_of_label : Process → List Label → List ℕ → ℕ
place_of_label q [] l = 0
place_of_label q (x ∷ xs) l = if is_same x.name l then wrapped q x.before else place_of_label q xs l

-- where a process is next: it goes on, if none of its effects is a move
abbrev pub next_seat : Process → Seat → List Effect → Seat
next_seat q s [] = record { place = wrapped q (s.place + 1); stack = s.stack }
next_seat q s (Writes x v ∷ es) = next_seat q s es
next_seat q s (Goes l ∷ es) = record { place = place_of_label q q.labels l; stack = s.stack }
next_seat q s (Calls l ∷ es) =
    record { place = place_of_label q q.labels l; stack = take q.depth (wrapped q (s.place + 1) ∷ s.stack) }
next_seat q s (Returns ∷ es) = record { place = slice_index s.stack 0; stack = take q.depth (drop 1 s.stack ++ 0 ∷ []) }

abbrev pub next_seats : Program → List ℕ → List Process → List Seat → List Seat
next_seats p env [] ss = []
next_seats p env (q ∷ qs) [] = []
next_seats p env (q ∷ qs) (s ∷ ss) =
    next_seat q s (effects_of p env (slice_index q.forms s.place)) ∷ next_seats p env qs ss

-- the signal input `reset`, if there is one, is given 1
abbrev pub resets : List Def → List ℕ → Bool
resets defs inputs = option_map_or (λ d. slice_index inputs (pad_number defs d) == 1) (position is_reset defs) false

-- the state after a clock with these inputs and environment
abbrev pub next_state : Program → State → List ℕ → List ℕ → State
next_state p st inputs env =
    if resets p.defs inputs then zero_state p
    else record {
      stored = next_stored (clock_effects p st env) 0 p.defs st.stored;
      seats = next_seats p env p.processes st.seats;
    }

-- the values of the output ports and signals
abbrev pub outputs_of : List Def → List ℕ → List ℕ
outputs_of [] env = []
outputs_of (x ∷ xs) [] = []
outputs_of (x ∷ xs) (v ∷ vs) = if is_output x.what then v ∷ outputs_of xs vs else outputs_of xs vs
