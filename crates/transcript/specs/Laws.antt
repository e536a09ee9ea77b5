-- When a device has exactly one transcript.
use Rattle.std.specs.Prelude.{◌≡◌, ℕ, List}
use Rattle.mp_base.specs.declared.value.Trit.{Trit}
use Rattle.mp_base.specs.declared.pad.Pad.{Pad}
use Rattle.mp_base.specs.PadBits.{Fit}

-- from a state, at given inputs, what is shown and the next state are determined
abbrev pub IsDetermined : {S : Type 0} → (S → List ℕ → List (List Trit) → S → Type 0) → Type 0
IsDetermined Steps =
    (before v w : _) (given : List ℕ) (shown other : List (List Trit))
    → Steps before given shown v → Steps before given other w → (shown ≡ other) × (v ≡ w)

-- at all inputs that fit these pads there is a step from this state
abbrev pub CanStep : {S : Type 0} → (S → List ℕ → List (List Trit) → S → Type 0) → List Pad → S → Type 0
CanStep Steps pads before =
    (given : List ℕ) → Fit pads given → (shown : List (List Trit)) × (after : _) × Steps before given shown after

-- after each step there is a next one
abbrev pub StepsOn : {S : Type 0} → (S → List ℕ → List (List Trit) → S → Type 0) → List Pad → Type 0
StepsOn Steps pads =
    (before after : _) (given : List ℕ) (shown : List (List Trit)) → Steps before given shown after
    → CanStep Steps pads after
