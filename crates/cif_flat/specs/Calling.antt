-- What is found of calls.
use Rattle.std.specs.Prelude.{ℕ, ◌<◌, ◌≤◌, ◌≡◌, ◌⊎◌, ◌^◌, List, Some, ℤ, slice_get, Result, Ok, Err}
use Rattle.std.specs.BTreeMap.{BTreeMap, get}
use Rattle.std.specs.Ordering.{nat_cmp}
use Rattle.cif_form.specs.declared.command.Turn.{Turn}
use Rattle.cif_form.specs.declared.command.Command.TheVariants.{Call}
use Rattle.cif_form.specs.declared.command.Item.{Item}
use Rattle.cif_form.specs.Place.{Scale, IsScale}
use Rattle.cif_flat.specs.declared.called.Composed.{Composed}
use Rattle.cif_flat.specs.declared.fault.Fault.{Fault}
use Rattle.cif_flat.specs.declared.fault.Fault.TheVariants.{F3, F4, F7, F8}
use Rattle.cif_place.specs.declared.placement.Placement.{Placement}
use Rattle.cif_place.specs.declared.ratio.Ratio.{Ratio}
use Rattle.cif_place.specs.Placing.{scale_of}
use Rattle.cif_place.specs.Turning.{IsTurned, IsHeldTurned, HasAskew, HasUneven, HasFar, AreTurns}
use Rattle.cif_form.specs.Walk.{walk_limit}

-- the turns of the call are those composed
abbrev pub IsCallOf : Item → Composed → Type 0
IsCallOf i c = (offset : ℕ) (n : ℤ) (ts : List Turn) → i ≡ record { offset = offset; command = Call n ts }
    → IsTurned (scale_of c.ratio) ts c.turned × IsHeldTurned (2 ^ 104) c.turned

abbrev pub AreCalls : List Item → BTreeMap ℕ Composed → Type 0
AreCalls items calls = (k : ℕ) (c : Composed) → get nat_cmp calls k ≡ Some c → (i : Item) → slice_get items k ≡ Some i
    → IsCallOf i c

-- a call with these turns stands at the index
abbrev pub IsCallAt : List Item → ℕ → List Turn → Type 0
IsCallAt items at ts =
    (offset : ℕ) × (n : ℤ) × (slice_get items at ≡ Some (record { offset = offset; command = Call n ts }))

-- the placement of a call of a definition with this scale, or the first rule that is broken of those of its turns, of
-- the scale and of the count
abbrev pub IsCalled : Scale → List Turn → Ratio → ℕ → Result Placement Fault → Type 0
IsCalled s ts ratio count (Ok p) =
    ¬ HasAskew ts × IsScale (scale_of ratio) × ¬ HasUneven s ts × (count < walk_limit) × ¬ HasFar s ts × AreTurns s ts p
IsCalled s ts ratio count (Err F3) = HasAskew ts
IsCalled s ts ratio count (Err F4) = ¬ HasAskew ts × (¬ IsScale (scale_of ratio) ⊎ HasUneven s ts)
IsCalled s ts ratio count (Err F7) = ¬ HasAskew ts × IsScale (scale_of ratio) × ¬ HasUneven s ts × (walk_limit ≤ count)
IsCalled s ts ratio count (Err F8) =
    ¬ HasAskew ts × IsScale (scale_of ratio) × ¬ HasUneven s ts × (count < walk_limit) × HasFar s ts
IsCalled s ts ratio count (Err _) = ⊥
