-- One pass over the nets of a net that stands alone.
use Rattle.std.specs.Prelude.{◌≡◌, ◌<◌, ◌≤◌, ◌⊎◌, take, ℕ, List, Option, Some, None, Bool, true, false, map}
use Rattle.std.specs.Prelude.{if◌then◌else◌, length, slice_get, slice_index_or}
use Rattle.std.specs.List.{sum_by}
use Rattle.mp_base.specs.declared.value.Trit.{Trit}
use Rattle.mp_base.specs.declared.value.Trit.TheVariants.{X}
use Rattle.nor_net.specs.declared.net.Phase.{Phase}
use Rattle.nor_net.specs.declared.net.NetId.{NetId}
use Rattle.nor_net.specs.declared.net.Part.{Part}
use Rattle.nor_net.specs.declared.net.Part.TheVariants.{Input, Gate, Latch}
use Rattle.nor_net.specs.Shape.{values_at, count_inputs}
use Rattle.nor_net.specs.Elements.{Spot, Element, Given, Latched, nets_of}
use Rattle.nor_net.specs.Settled.{Setting, nor_value, is_open, gives, IsSolution, IsBelow}

-- the value at a number, or X
abbrev pub at : List Trit → NetId → Trit
at values id = slice_index_or values id.0 X

-- what a part gives net n in place of its value, in a phase
abbrev pub renewed : Option Phase → List Trit → ℕ → Part → Trit
renewed phase values n Input = slice_index_or values n X
renewed phase values n (Gate inputs) = nor_value (map (at values) inputs)
renewed phase values n (Latch p None) = X
renewed phase values n (Latch p (Some m)) = if is_open phase p then at values m else slice_index_or values n X

-- an X counts one
abbrev pub unknown : Trit → ℕ
unknown X = 1
unknown _ = 0

-- how many values are X
abbrev pub unknowns : List Trit → ℕ
unknowns ts = sum_by unknown ts

-- values on their way to the least solution: what is given or held is in place, each value is X or what its element
-- gives, and no solution
-- lies below
pub record Climbs (s : Setting) (v : Spot → Trit) : Type 0 where
  pub inputs : (n : Spot) → s.nets n ≡ Some Given → v n ≡ s.given n
  pub held : (n m : Spot) (p : Phase) → s.nets n ≡ Some (Latched p m) → is_open s.phase p ≡ false → v n ≡ s.before n
  pub up : (n : Spot) (e : Element) → s.nets n ≡ Some e → (v n ≡ X) ⊎ (v n ≡ gives s v n e)
  pub least : (w : Spot → Trit) → IsSolution s w → IsBelow v w

abbrev pub setting_in : List Part → Option Phase → (Spot → Trit) → (Spot → Trit) → Setting
setting_in parts phase values before = record { nets = nets_of parts; phase = phase; given = values; before = before }

-- net n was renewed, and its value changed or not
pub record Renewed (parts : List Part) (phase : Option Phase) (n : ℕ) (old new : List Trit)
    (changed : Bool) : Type 0 where
  pub size : length new ≡ length old
  pub climbs : (values before : Spot → Trit) → Climbs (setting_in parts phase values before) (values_at old)
      → Climbs (setting_in parts phase values before) (values_at new)
  pub fewer : (values before : Spot → Trit) → Climbs (setting_in parts phase values before) (values_at old)
      → changed ≡ true → unknowns new < unknowns old
  pub same : changed ≡ false → new ≡ old
  pub stands : changed ≡ false → (p : Part) → slice_get parts n ≡ Some p
      → slice_index_or new n X ≡ renewed phase new n p

-- the nets below n were renewed, and a value changed or not
pub record Passed (parts : List Part) (phase : Option Phase) (n : ℕ) (old new : List Trit)
    (changed : Bool) : Type 0 where
  pub size : length new ≡ length old
  pub climbs : (values before : Spot → Trit) → Climbs (setting_in parts phase values before) (values_at old)
      → Climbs (setting_in parts phase values before) (values_at new)
  pub fewer : (values before : Spot → Trit) → Climbs (setting_in parts phase values before) (values_at old)
      → changed ≡ true → unknowns new < unknowns old
  pub same : changed ≡ false → new ≡ old
  pub stands : changed ≡ false → (k : ℕ) (p : Part) → k < n → slice_get parts k ≡ Some p
      → slice_index_or new k X ≡ renewed phase new k p

-- what net n begins with: an input has what it is given, a latch that holds what it held, and all else is X
abbrev pub first_value : Option Phase → Trit → List Trit → ℕ → Part → Trit
first_value phase input before n Input = input
first_value phase input before n (Gate inputs) = X
first_value phase input before n (Latch p m) = if is_open phase p then X else slice_index_or before n X

-- the nets below n have what they begin with, and the others what they had
pub record Started (parts : List Part) (phase : Option Phase) (inputs : List Trit) (n : ℕ)
    (old new : List Trit) : Type 0 where
  pub size : length new ≡ length old
  pub below : (k : ℕ) (p : Part) → k < n → slice_get parts k ≡ Some p
      → slice_index_or new k X ≡ first_value phase (slice_index_or inputs (count_inputs (take k parts)) X) old k p
  pub above : (k : ℕ) → n ≤ k → slice_index_or new k X ≡ slice_index_or old k X
