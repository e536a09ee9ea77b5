-- What a program shows, clock by clock.
use Rattle.std.specs.Prelude.{◌≡◌, ◌⊎◌, ℕ, ◌<◌, List, [], ◌∷◌, Bool, true, false, ◌||◌, nat_lt, length, slice_index_or}
use Rattle.std.specs.List.{list_any}
use Rattle.mp_program.specs.declared.program.Program.{Program}
use Rattle.mp_program.specs.Names.{is_stored}
use Rattle.mp_program.specs.State.{State, zero_state}
use Rattle.mp_program.specs.Environment.{IsEnvironment}
use Rattle.mp_program.specs.Step.{next_state, outputs_of, resets}

-- one clock: from this state, with these inputs, it shows these outputs and ends in the next state
pub record IsClock (p : Program) (st : State) (inputs outputs : List ℕ) (after : State) : Type 0 where
  pub env : List ℕ
  pub environment : IsEnvironment p st inputs env
  pub shown : outputs ≡ outputs_of p.defs env
  pub next : after ≡ next_state p st inputs env

-- from this state, clocks with these inputs show these outputs
abbrev pub IsTraceFrom : Program → State → List (List ℕ) → List (List ℕ) → Type 0
IsTraceFrom p st [] [] = Unit {0}
IsTraceFrom p st [] (o ∷ os) = ⊥
IsTraceFrom p st (i ∷ is) [] = ⊥
IsTraceFrom p st (i ∷ is) (o ∷ os) = (after : State) × IsClock p st i o after × IsTraceFrom p after is os

-- the same from the zero state
abbrev pub IsTrace : Program → List (List ℕ) → List (List ℕ) → Type 0
IsTrace p inputs outputs = IsTraceFrom p (zero_state p) inputs outputs

-- something lasts from clock to clock
abbrev pub stores : Program → Bool
stores p = list_any (λ x. is_stored x.what) p.defs || nat_lt 0 (length p.processes)

-- clock k doesn't depend on the state in which the chip woke: there was a reset before it, or nothing is stored
abbrev pub IsSettled : Program → List (List ℕ) → ℕ → Type 0
IsSettled p inputs k =
    (stores p ≡ false) ⊎ ((j : ℕ) × (j < k) × (resets p.defs (slice_index_or inputs j []) ≡ true))
