-- The law of drawing: in a drawing of nets, joined ones too, the values of nodes solve the equations of the nets.
use Rattle.std.specs.Prelude.{◌≡◌, ◌<◌, ℕ, List, Option, Some, None, ◌⊎◌, All, ◌≢◌}
use Rattle.mp_base.specs.declared.value.Trit.{Trit}
use Rattle.mp_base.specs.declared.value.Trit.TheVariants.{Zero, One, X}
use Rattle.switch_net.specs.Settled.{Setting, IsSolution, IsSettled}
use Rattle.nor_net.specs.declared.net.Phase.{Phase}
use Rattle.nor_net.specs.Elements.{Spot, Element, Given, Nor, Latched, Joined, Low, Nets}
use Rattle.nor_net.specs.Laws.{Covers}
use Rattle.nor_net.specs.Settled as nor
use Rattle.drawing.specs.Draws.{Point, OfNet, Ground, Power, OfPhase, Draws}

abbrev pub IsKind : Nets → Spot → Element → Type 0
IsKind nets n e = nets n ≡ Some e

-- the data of a latch is a gate, an input, or what is set to 0
pub record AreFed (nets : Nets) : Type 0 where
  pub fed : (l : Spot) (p : Phase) (d : Spot) → IsKind nets l (Latched p d)
      → ((ins : List Spot) × IsKind nets d (Nor ins)) ⊎ IsKind nets d Given ⊎ IsKind nets d Low

-- what nets are settled from
abbrev pub NetSetting : Type 0
NetSetting = nor.Setting

-- the drivers are ground, power, the phases and the inputs
pub record IsDriven (s : NetSetting) (node : Point → ℕ) (driver : ℕ → Option Trit) : Type 0 where
  pub ground : driver (node Ground) ≡ Some Zero
  pub power : driver (node Power) ≡ Some One
  pub phase_on : (p : Phase) → s.phase ≡ Some p → driver (node (OfPhase p)) ≡ Some One
  pub phase_off : (p : Phase) → s.phase ≢ Some p → driver (node (OfPhase p)) ≡ Some Zero
  pub input : (k : Spot) → IsKind s.nets k Given → driver (node (OfNet k)) ≡ Some (s.given k)
  pub gate : (k : Spot) (ins : List Spot) → IsKind s.nets k (Nor ins) → driver (node (OfNet k)) ≡ None
  pub latch : (k : Spot) (p : Phase) (d : Spot) → IsKind s.nets k (Latched p d) → driver (node (OfNet k)) ≡ None

-- a latch holds before what its node held
abbrev pub HeldBefore : NetSetting → (Point → ℕ) → (ℕ → Trit) → Type 0
HeldBefore s node before = (k : Spot) (p : Phase) (d : Spot) → IsKind s.nets k (Latched p d)
    → s.before k ≡ before (node (OfNet k))

-- what solves the equations of the network, solves at the nodes of the nets those of the nets
abbrev pub SolutionsAreDrawn : Type 0
SolutionsAreDrawn =
    (t : NetSetting) (s : Setting) (node : Point → ℕ) (v : ℕ → Trit) → AreFed t.nets → Draws s.channels t.nets node
    → IsDriven t node s.driver
    → HeldBefore t node s.before → IsSolution s v → nor.IsSolution t (λ k. v (node (OfNet k)))

abbrev pub IsElementAt : Nets → Spot → Type 0
IsElementAt nets n = (e : Element) × (nets n ≡ Some e)

-- What is read is there, joints end, and a list has all nets.
pub record AreClosed (nets : Nets) : Type 0 where
  pub inputs : (n : Spot) (ins : List Spot) → IsKind nets n (Nor ins) → All (IsElementAt nets) ins
  pub joins : (n m : Spot) → IsKind nets n (Joined m) → IsElementAt nets m
  pub rank : Spot → ℕ
  pub falls : (n m : Spot) → IsKind nets n (Joined m) → rank m < rank n
  pub cover : List Spot
  pub covers : Covers cover nets

-- and settled values of the network are, at the nodes of the nets, those of the nets, X included
abbrev pub SettledValuesAreDrawn : Type 0
SettledValuesAreDrawn =
    (t : NetSetting) (s : Setting) (node : Point → ℕ) (v : ℕ → Trit) → AreFed t.nets → AreClosed t.nets
    → Draws s.channels t.nets node → IsDriven t node s.driver
    → HeldBefore t node s.before → IsSettled s v
    → nor.IsSolution t (λ k. v (node (OfNet k)))
    × ((u : Spot → Trit) → nor.IsSolution t u → (k : Spot) → IsElementAt t.nets k → (v (node (OfNet k)) ≡ X)
    ⊎ (v (node (OfNet k)) ≡ u k))
