-- Writing what drives nodes.
use Rattle.std.specs.Prelude.{◌≡◌, ◌⊎◌, ℕ, List, Option, Some, Contains, length}
use Rattle.std.specs.List.{AllZip}
use Rattle.mp_base.specs.declared.value.Trit.{Trit}
use Rattle.switch_net.specs.Values.{driver_at}
use Rattle.mp_base.specs.PadBits.{low_bits}

-- the node is driven to this value
abbrev pub IsDriven : (ℕ → Option Trit) → ℕ → Trit → Type 0
IsDriven driver n b = driver n ≡ Some b

-- the nodes are driven to the bits of a word
abbrev pub AreDriven : (ℕ → Option Trit) → List ℕ → ℕ → Type 0
AreDriven driver nodes word = AllZip (IsDriven driver) nodes (low_bits (length nodes) word)

-- these nodes were set to what drives them
pub record AreSet (driver : ℕ → Option Trit) (nodes : List ℕ) (old new : List (Option Trit)) : Type 0 where
  pub these : (n : ℕ) → Contains nodes n → driver_at new n ≡ driver n
  pub others : (n : ℕ) → (driver_at new n ≡ driver_at old n) ⊎ (driver_at new n ≡ driver n)
