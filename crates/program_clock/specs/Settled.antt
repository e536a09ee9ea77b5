-- How far a clock has been evaluated.
use Rattle.std.specs.Prelude.{◌≡◌, ℕ, ◌<◌, List, Bool, true, false, slice_index, slice_get, Some}
use Rattle.mp_program.specs.declared.program.Def.{Def}
use Rattle.mp_program.specs.declared.program.Program.{Program}
use Rattle.mp_program.specs.declared.program.What.{What}
use Rattle.mp_program.specs.Names.{is_driven, is_input, is_stored, pad_number}
use Rattle.mp_program.specs.State.{State}
use Rattle.mp_program.specs.Environment.{what_value, driven_value}

-- the inputs have the values of their pads
abbrev pub HasInputs : List Def → (inputs env : List ℕ) → Type 0
HasInputs defs inputs env =
    (d : ℕ) (x : Def) → slice_get defs d ≡ Some x → is_input x.what ≡ true
    → slice_index env d ≡ slice_index inputs (pad_number defs d)

-- the registers and flags have what is stored for them
abbrev pub HasStored : List Def → (stored env : List ℕ) → Type 0
HasStored defs stored env =
    (d : ℕ) (x : Def) → slice_get defs d ≡ Some x → is_stored x.what ≡ true
    → slice_index env d ≡ slice_index stored d

-- nothing changes for the definitions whose kind fails a test
abbrev pub LeavesOthers : (What → Bool) → List Def → (old new : List ℕ) → Type 0
LeavesOthers test defs old new =
    (d : ℕ) (x : Def) → slice_get defs d ≡ Some x → test x.what ≡ false
    → slice_index new d ≡ slice_index old d

-- what never changes has its value
abbrev pub IsSteady : List Def → List ℕ → Type 0
IsSteady defs env =
    (d : ℕ) (x : Def) → slice_get defs d ≡ Some x
    → is_driven x.what ≡ false → is_input x.what ≡ false → is_stored x.what ≡ false
    → slice_index env d ≡ what_value x.what 0 0 0

-- nothing is stored for what is no register and no flag
abbrev pub IsBare : List Def → List ℕ → Type 0
IsBare defs stored =
    (d : ℕ) (x : Def) → slice_get defs d ≡ Some x → is_stored x.what ≡ false
    → slice_index stored d ≡ 0

-- the definitions that are not driven have their values
abbrev pub IsGiven : List Def → (stored inputs env : List ℕ) → Type 0
IsGiven defs stored inputs env =
    (d : ℕ) (x : Def) → slice_get defs d ≡ Some x → is_driven x.what ≡ false
    → slice_index env d ≡ what_value x.what (slice_index stored d) (slice_index inputs (pad_number defs d)) 0

-- the same in a state of a program
abbrev pub KeepsGiven : Program → State → List ℕ → List ℕ → Type 0
KeepsGiven p st inputs env = IsGiven p.defs st.stored inputs env

-- the first k of an order have their values
abbrev pub SettledUpTo : Program → State → List ℕ → List ℕ → ℕ → Type 0
SettledUpTo p st env order k =
    (j : ℕ) (x : Def) → j < k → slice_get p.defs (slice_index order j) ≡ Some x
    → slice_index env (slice_index order j) ≡ driven_value p st env x
