-- What is added to a flat net for one net of the path.
use Rattle.std.specs.Prelude.{◌≡◌, ◌<◌, ◌+◌, ℕ, List, [], ◌∷◌, ◌++◌, None, All, length, map}
use Rattle.nor_net.specs.declared.net.NetId.{NetId}
use Rattle.nor_net.specs.declared.net.Part.{Part}
use Rattle.nor_net.specs.declared.net.Part.TheVariants.{Input, Gate, Latch}
use Rattle.nor_net.specs.Elements.{Spot, Element, Given, Nor, Latched, Joined, Low}
use Rattle.nor_net.specs.Shape.{gate_inputs, net_limit}

-- how many nets stand for an element
abbrev pub nets_for : Element → ℕ
nets_for (Joined m) = 0
nets_for Low = 2
nets_for _ = 1

-- how many inputs their gates have
abbrev pub inputs_for : Element → ℕ
inputs_for (Nor inputs) = length inputs
inputs_for Low = 1
inputs_for _ = 0

-- the nets that an element reads at once have numbers below this one
abbrev pub ReadsBelow : (Spot → NetId) → ℕ → Element → Type 0
ReadsBelow of count (Nor inputs) = All (λ m. (of m).0 < count) inputs
ReadsBelow of count _ = Unit {0}

-- there is room for what stands for an element
pub record IsReady (e : Element) (of : Spot → NetId) (parts : List Part) : Type 0 where
  pub nets : length parts + nets_for e < net_limit
  pub inputs : gate_inputs parts + inputs_for e < net_limit
  pub below : ReadsBelow of (length parts) e

-- what stands for an element behind so many nets; latches are fed later
abbrev pub parts_for : ℕ → (Spot → NetId) → Element → List Part
parts_for count of Given = Input ∷ []
parts_for count of (Nor inputs) = Gate (map of inputs) ∷ []
parts_for count of (Latched phase m) = Latch phase None ∷ []
parts_for count of (Joined m) = []
parts_for count of Low = Gate [] ∷ Gate (record { 0 = count } ∷ []) ∷ []

-- its number
abbrev pub number_for : ℕ → (Spot → NetId) → Element → NetId
number_for count of (Joined m) = of m
number_for count of Low = record { 0 = count + 1 }
number_for count of _ = record { 0 = count }

-- what stands for an element was added at the end, with this number
pub record IsElementAdded (e : Element) (of : Spot → NetId) (old new : List Part) (id : NetId) : Type 0 where
  pub parts : new ≡ old ++ parts_for (length old) of e
  pub number : id ≡ number_for (length old) of e
