-- What a line adds, from what its form adds.
use Rattle.std.proofs.Common.{◌≡◌, ℕ, zero, suc, ◌<◌, List, [], ◌∷◌, ◌++◌, subst, inl, inr, length, take, arith, get_or}
use Rattle.std.proofs.Common.{Option, Result, Ok, Err}
use Rattle.std.specs.Prelude.{IfErr}
use Rattle.stimulus.specs.declared.fault.Fault.{Fault}
use Rattle.stimulus.specs.declared.fault.Fault.TheVariants.{NoMemory, Breaks}
use Rattle.mp_base.specs.declared.pad.Pad.{Pad}
use Rattle.mp_base.specs.declared.pad.Pads.{Pads}
use Rattle.stimulus.specs.declared.given.Given.{Given}
use Rattle.stimulus_lines.specs.declared.piece.Piece.{Piece}
use Rattle.stimulus_lines.specs.declared.form.Assignment.{Assignment}
use Rattle.stimulus_lines.specs.declared.form.Form.{Form}
use Rattle.stimulus.specs.declared.reading.Reading.{Reading}
use Rattle.stimulus_lines.specs.Forms.{IsForm}
use Rattle.stimulus.specs.Rules.{IsGiven, IsMisfit, AreGiven, FirstMisfit, IsInPlace, IsFull, AddsForm, Adds, FirstIn}
use Rattle.stimulus.specs.Rules.{FormFault, IsFault, formless, misfit, misplaced, unfit}
use Rattle.stimulus_lines.proofs.Unique.{form_once}

-- one word more
pub given_push : (inputs : List Pad) (xs : List Assignment) (x : Assignment) (gs : List Given) (g : Given)
    → AreGiven inputs xs gs → IsGiven inputs x g → AreGiven inputs (xs ++ x ∷ []) (gs ++ g ∷ [])
given_push inputs [] x [] g h k = (k, tt)
given_push inputs [] x (j ∷ gs) g h k = absurd h
given_push inputs (y ∷ xs) x [] g h k = absurd h
given_push inputs (y ∷ xs) x (j ∷ gs) g h k = (h.0, given_push inputs xs x gs g h.1 k)

-- the first word that doesn't fit
pub first_misfit : (inputs : List Pad) (xs : List Assignment) (gs : List Given) (i : ℕ) (d : Assignment) (k at : ℕ)
    → i < length xs → AreGiven inputs (take i xs) gs
    → IsMisfit inputs (get_or xs i d) k × (at ≡ (get_or xs i d).at) → FirstMisfit inputs xs k at
first_misfit inputs [] gs i d k at lt h m = absurd (omega arith)
first_misfit inputs (x ∷ xs) gs zero d k at lt h m = inl m
first_misfit inputs (x ∷ xs) [] (suc i) d k at lt h m = absurd h
first_misfit inputs (x ∷ xs) (g ∷ gs) (suc i) d k at lt h m =
    inr (g, h.0, first_misfit inputs xs gs i d k at (omega arith) h.1 m)

pub adds_line : (known : Option Pads) (r : Reading) (line : List Piece) (f : Form) (t : Reading) → (IsFull r line → ⊥)
    → IsForm line f → IsInPlace r f × AddsForm known r f t → Adds known r line t
adds_line known r line f t room is h = record { room = room; form = f; is = is; «in_place» = h.0; adds = h.1 }

pub first_fault : (known : Option Pads) (r : Reading) (line : List Piece) (f : Form) (k at : ℕ) → (IsFull r line → ⊥)
    → IsForm line f → FormFault known r line f k at → FirstIn known r line k at
first_fault known r line f k at room is (misplaced rule place not) =
    formless rule place room
    (λ g other here. not (subst (λ (x : Form). IsInPlace r x) (form_once line g f other is) here))
first_fault known r line f k at room is (unfit here misfits) = misfit f room is here misfits

-- a fault of which more is true
pub fault_weaker : {T : Type 0} (r : Result T Fault) (P Q : ℕ → ℕ → Type 0) → ((k at : ℕ) → P k at → Q k at)
    → IfErr r (λ e. IsFault e P) → IfErr r (λ e. IsFault e Q)
fault_weaker (Ok x) P Q f h = h
fault_weaker (Err NoMemory) P Q f h = h
fault_weaker (Err (Breaks k at)) P Q f h = f k at h

pub fault_at : (e : Fault) (P Q : ℕ → ℕ → Type 0) → ((k at : ℕ) → P k at → Q k at) → IsFault e P → IsFault e Q
fault_at NoMemory P Q f h = h
fault_at (Breaks k at) P Q f h = f k at h
