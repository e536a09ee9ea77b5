-- The values that nets have in one setting: the least solution of their equations.
use Rattle.std.specs.Prelude.{◌≡◌, ◌⊎◌, List, Option, Some, Bool, true, false, if◌then◌else◌, map}
use Rattle.std.specs.List.{list_all, list_any}
use Rattle.mp_base.specs.declared.value.Trit.{Trit}
use Rattle.mp_base.specs.declared.value.Trit.TheVariants.{Zero, One, X}
use Rattle.nor_net.specs.declared.net.Phase.{Phase}
use Rattle.nor_net.specs.declared.net.Phase.TheVariants.{A, B, C}
use Rattle.nor_net.specs.Elements.{Spot, Element, Given, Nor, Latched, Joined, Low, Nets}

-- the value is 0
abbrev pub is_zero : Trit → Bool
is_zero Zero = true
is_zero _ = false

-- the value is 1
abbrev pub is_one : Trit → Bool
is_one One = true
is_one _ = false

-- the value of a NOR: 0 where an input is 1, 1 where all are 0, and X otherwise
abbrev pub nor_value : List Trit → Trit
nor_value values = if list_any is_one values then Zero else if list_all is_zero values then One else X

-- a latch of this phase takes its data in a setting
abbrev pub is_open : Option Phase → Phase → Bool
is_open (Some A) A = true
is_open (Some B) B = true
is_open (Some C) C = true
is_open _ _ = false

-- What nets settle in: the phase that is at 1, if one is, the values that are given, and the values before.
pub record Setting : Type 0 where
  pub nets : Nets
  pub phase : Option Phase
  pub given : Spot → Trit
  pub before : Spot → Trit

-- what an element gives its net, where nets are as v says
abbrev pub gives : Setting → (Spot → Trit) → Spot → Element → Trit
gives s v n Given = s.given n
gives s v n (Nor inputs) = nor_value (map v inputs)
gives s v n (Latched phase source) = if is_open s.phase phase then v source else s.before n
gives s v n (Joined other) = v other
gives s v n Low = Zero

-- values that have at each net what its element gives; where there is no net they may be any, and the least are X
abbrev pub IsSolution : Setting → (Spot → Trit) → Type 0
IsSolution s v = (n : Spot) (e : Element) → s.nets n ≡ Some e → v n ≡ gives s v n e

-- X is below 0 and below 1
abbrev pub IsBelow : (Spot → Trit) → (Spot → Trit) → Type 0
IsBelow v w = (n : Spot) → (v n ≡ X) ⊎ (v n ≡ w n)

-- the least solution
pub record IsSettled (s : Setting) (v : Spot → Trit) : Type 0 where
  pub solution : IsSolution s v
  pub least : (w : Spot → Trit) → IsSolution s w → IsBelow v w

-- n has what its gate or joint gives it, in any setting; what is given or held may be any value
abbrev pub Obeys : (Spot → Trit) → Spot → Option Element → Type 0
Obeys v n (Some (Nor inputs)) = v n ≡ nor_value (map v inputs)
Obeys v n (Some (Joined other)) = v n ≡ v other
Obeys v n (Some Low) = v n ≡ Zero
Obeys v n _ = Unit {0}
