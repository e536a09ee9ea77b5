-- Bits as pairs of nets: one that has the bit, and one that has its negation.
use Rattle.std.specs.Prelude.{◌≡◌, ◌<◌, ℕ, List, Option, Some, None, Bool, not, ◌==◌, slice_get}
use Rattle.mp_base.specs.declared.value.Trit.{Trit}
use Rattle.nor_net.specs.declared.net.NetId.{NetId}
use Rattle.nor_net.specs.Elements.{Spot, spot}
use Rattle.nor_net.specs.Laws.{bit}
use Rattle.bit_gates.specs.declared.rails.Rails.{Rails}

abbrev pub swapped : Rails → Rails
swapped rails = record { bit = rails.negation; negation = rails.bit }

-- a bit has a name, which is an index
abbrev pub Named : List (Option Rails) → ℕ → Rails → Type 0
Named entries k rails = slice_get entries k ≡ Some (Some rails)

abbrev pub IsNamed : List (Option Rails) → ℕ → Type 0
IsNamed entries k = (rails : Rails) × Named entries k rails

-- a net has the bit, or the negation of the bit, with this name
abbrev pub BitOf : List (Option Rails) → ℕ → NetId → Type 0
BitOf entries k id = (rails : Rails) × Named entries k rails × (id ≡ rails.bit)

abbrev pub NegationOf : List (Option Rails) → ℕ → NetId → Type 0
NegationOf entries k id = (rails : Rails) × Named entries k rails × (id ≡ rails.negation)

-- the nets have a bit and its negation
pub record HasRails (v : Spot → Trit) (rails : Rails) (b : Bool) : Type 0 where
  pub has_bit : v (spot 0 rails.bit) ≡ bit b
  pub has_negation : v (spot 0 rails.negation) ≡ bit (not b)

-- where the bit is known, so is its negation, and the other way round
pub record Agree (v : Spot → Trit) (rails : Rails) : Type 0 where
  pub from_bit : (b : Bool) → v (spot 0 rails.bit) ≡ bit b → HasRails v rails b
  pub from_negation : (b : Bool) → v (spot 0 rails.negation) ≡ bit (not b) → HasRails v rails b

-- the bit with this name, if there is one, is that of a number that is 0 or 1
abbrev pub Known : (Spot → Trit) → List (Option Rails) → ℕ → ℕ → Type 0
Known v entries k x = (rails : Rails) → Named entries k rails → HasRails v rails (x == 1)

-- both nets are among the first ones
pub record AreBelow (n : ℕ) (rails : Rails) : Type 0 where
  pub bit_below : rails.bit.0 < n
  pub negation_below : rails.negation.0 < n

abbrev pub AllBelow : ℕ → List (Option Rails) → Type 0
AllBelow n entries = (k : ℕ) (rails : Rails) → Named entries k rails → AreBelow n rails

-- what is named stays named
abbrev pub KeepsNames : List (Option Rails) → List (Option Rails) → Type 0
KeepsNames old new = (k : ℕ) (rails : Rails) → Named old k rails → Named new k rails

-- the net of a bit
abbrev pub net_of : Option Rails → Option NetId
net_of None = None
net_of (Some rails) = Some rails.bit
