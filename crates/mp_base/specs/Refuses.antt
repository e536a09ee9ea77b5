-- What a refusal says.
use Rattle.std.specs.Prelude.{◌≡◌, ℕ, Option, None, Some, Result, Ok, Err}
use Rattle.mp_base.specs.declared.refusal.Place.{Place}
use Rattle.mp_base.specs.declared.refusal.Family.{Family}
use Rattle.mp_base.specs.declared.refusal.Spot.{Spot}
use Rattle.mp_base.specs.declared.refusal.Spot.TheVariants.{At}
use Rattle.mp_base.specs.declared.refusal.Broken as broken
use Rattle.mp_base.specs.declared.refusal.Refusal.{Refusal}
use Rattle.mp_base.specs.declared.refusal.Refusal.TheVariants.{NoMemory, Broken}

-- the spot is a place in a text, and this is true of it
abbrev pub SpotIs : Spot → (Place → Type 0) → Type 0
SpotIs (At at) P = P at
SpotIs _ P = ⊥

-- want of memory, of which nothing is said, or a broken rule of which this is true
abbrev pub IsRefusal : (broken.Broken → Type 0) → Refusal → Type 0
IsRefusal Is NoMemory = Unit {0}
IsRefusal Is (Broken b) = Is b

-- a broken rule of this family, of whose number and place this is true
abbrev pub IsOfFamily : Family → (ℕ → Place → Type 0) → broken.Broken → Type 0
IsOfFamily family P b = (b.rule.family ≡ family) × SpotIs b.spot (P b.rule.number)

abbrev pub RefusesAt : Family → Refusal → (ℕ → Place → Type 0) → Type 0
RefusesAt family e P = IsRefusal (IsOfFamily family P) e

-- a stage's verdict: a refusal names the first broken rule, and Ok comes only where none is broken
abbrev pub IsJudged : {T : Type 0} → (Option broken.Broken → Type 0) → Result T Refusal → Type 0
IsJudged Rules (Ok value) = Rules None
IsJudged Rules (Err why) = IsRefusal (λ b. Rules (Some b)) why
