-- The rules of masks and networks, and the first that is broken.
use Rattle.std.specs.Prelude.{◌≡◌, ◌≢◌, ℕ, ◌<◌, ◌+◌, List, length, Some, ℤ, Contains, slice_get}
use Rattle.mp_base.specs.declared.pad.Pads.{Pads}
use Rattle.mp_base.specs.PadNames.{supplies}
use Rattle.mp_base.specs.declared.refusal.Family.TheVariants.{N}
use Rattle.mp_base.specs.declared.refusal.Spot.{Spot}
use Rattle.mp_base.specs.declared.refusal.Spot.TheVariants.{Offset, Named, Nowhere}
use Rattle.mp_base.specs.declared.refusal.Broken.{Broken}
use Rattle.lam_geom.specs.declared.layer.Layer.{Layer}
use Rattle.lam_geom.specs.declared.label.FlatLabel.{FlatLabel}
use Rattle.lam_geom.specs.Chains.{Chain}
use Rattle.lam_geom.specs.Squares.{Square}
use Rattle.switch_net.specs.declared.limits.TheConstants.{MOST_NODES_AND_CHANNELS}
use Rattle.switch_net.specs.declared.network.Tag.{Tag}
use Rattle.switch_net.specs.declared.network.Network.{Network}
use Rattle.switch_net.specs.Conductors.{Joined}
use Rattle.switch_net.specs.Labels.{Names}
use Rattle.switch_net.specs.Pads.{driver_labels, chip_labels}
use Rattle.switch_net.specs.Drawn.{AreNodes, AreRegions, IsNetwork}

-- N1: an earlier label of that name is on another node
pub record IsOnTwoNodes (covers : Layer → ℤ → ℤ → Type 0) (labels : List FlatLabel) (i : ℕ)
    (label : FlatLabel) : Type 0 where
  pub at : slice_get labels i ≡ Some label
  pub j : ℕ
  pub before : j < i
  pub earlier : FlatLabel
  pub there : slice_get labels j ≡ Some earlier
  pub name : earlier.name ≡ label.name
  pub s : Square
  pub t : Square
  pub names : Names covers label s
  pub named : Names covers earlier t
  pub apart : ¬ Chain (Joined covers) t s

-- N2: no conductor is there
pub record IsOnNothing (covers : Layer → ℤ → ℤ → Type 0) (labels : List FlatLabel) (i : ℕ)
    (label : FlatLabel) : Type 0 where
  pub at : slice_get labels i ≡ Some label
  pub none : (s : Square) → ¬ Names covers label s

-- N3: a label that names a driver is on a node that an earlier label names as another driver
pub record IsDrivenTwice (drivers : List (List ℕ)) (tags : List Tag) (i : ℕ) (tag : Tag) : Type 0 where
  pub at : slice_get tags i ≡ Some tag
  pub driver : Contains drivers tag.name
  pub j : ℕ
  pub before : j < i
  pub earlier : Tag
  pub there : slice_get tags j ≡ Some earlier
  pub another : Contains drivers earlier.name
  pub names : earlier.name ≢ tag.name
  pub node : earlier.node ≡ tag.node

-- N4: the label at this place of those that are wanted is missing
pub record IsMissing (net : Network) (wanted : List (List ℕ)) (i : ℕ) (name : List ℕ) : Type 0 where
  pub at : slice_get wanted i ≡ Some name
  pub none : (t : Tag) → Contains net.tags t → t.name ≢ name

-- N5: nodes and channels together are too many
pub record AreTooMany (covers : Layer → ℤ → ℤ → Type 0) : Type 0 where
  pub nodes : List Square
  pub regions : List Square
  pub are_nodes : AreNodes covers nodes
  pub are_regions : AreRegions covers regions
  pub over : MOST_NODES_AND_CHANNELS < length nodes + length regions

-- the label breaks N1 or N2
pub data BreaksAt (covers : Layer → ℤ → ℤ → Type 0) (labels : List FlatLabel) (i : ℕ) : Type 0 where
  one : (label : FlatLabel) → IsOnTwoNodes covers labels i label → BreaksAt covers labels i
  two : (label : FlatLabel) → IsOnNothing covers labels i label → BreaksAt covers labels i

-- a label is on a node of another driver
abbrev pub MeetsDriver : List (List ℕ) → List Tag → ℕ → Type 0
MeetsDriver drivers tags i = (tag : Tag) × IsDrivenTwice drivers tags i tag

-- rule N of this number is broken at this spot
abbrev pub broken : ℕ → Spot → Broken
broken number spot = record { rule = record { family = N; number = number }; spot = spot }

-- the first rule that a mask with labels breaks: N1 and N2 label by label, then N3 among power, ground and phases, then
-- N5
pub data IsFirstOfMask (covers : Layer → ℤ → ℤ → Type 0) (labels : List FlatLabel) : Broken → Type 0 where
  n1 : (i : ℕ) (label : FlatLabel) → IsOnTwoNodes covers labels i label → ((j : ℕ) → j < i → ¬ BreaksAt covers labels j)
      → IsFirstOfMask covers labels (broken 1 (Offset label.offset))
  n2 : (i : ℕ) (label : FlatLabel) → IsOnNothing covers labels i label → ((j : ℕ) → j < i → ¬ BreaksAt covers labels j)
      → IsFirstOfMask covers labels (broken 2 (Offset label.offset))
  n3 : (net : Network) → IsNetwork covers labels net → (i : ℕ) (tag : Tag) → IsDrivenTwice supplies net.tags i tag
      → ((j : ℕ) → j < i → ¬ MeetsDriver supplies net.tags j)
      → IsFirstOfMask covers labels (broken 3 (Offset tag.offset))
  n5 : (net : Network) → IsNetwork covers labels net → ((i : ℕ) → ¬ MeetsDriver supplies net.tags i) → AreTooMany covers
      → IsFirstOfMask covers labels (broken 5 Nowhere)

-- the first rule that a network breaks with these pads: N3 with the input pads among the drivers, then N4
pub data IsFirstOfCircuit (net : Network) (pads : Pads) : Broken → Type 0 where
  n3 : (i : ℕ) (tag : Tag) → IsDrivenTwice (driver_labels pads.inputs) net.tags i tag
      → ((j : ℕ) → j < i → ¬ MeetsDriver (driver_labels pads.inputs) net.tags j)
      → IsFirstOfCircuit net pads (broken 3 (Offset tag.offset))
  n4 : ((i : ℕ) → ¬ MeetsDriver (driver_labels pads.inputs) net.tags i) → (i : ℕ) (name : List ℕ)
      → IsMissing net (chip_labels pads) i name
      → ((j : ℕ) (other : List ℕ) → j < i → ¬ IsMissing net (chip_labels pads) j other)
      → IsFirstOfCircuit net pads (broken 4 (Named name))

-- drivers are on different nodes, and no label of the chip is missing
pub record HasPads (net : Network) (pads : Pads) : Type 0 where
  pub apart : (i : ℕ) → ¬ MeetsDriver (driver_labels pads.inputs) net.tags i
  pub labelled : (i : ℕ) (name : List ℕ) → ¬ IsMissing net (chip_labels pads) i name

-- the mask with these labels draws this network, and none of N1 to N5 is broken with these pads
pub record IsSoundMask (covers : Layer → ℤ → ℤ → Type 0) (labels : List FlatLabel) (net : Network)
    (pads : Pads) : Type 0 where
  pub network : IsNetwork covers labels net
  pub labels_fit : (i : ℕ) → ¬ BreaksAt covers labels i
  pub few : ¬ AreTooMany covers
  pub has_pads : HasPads net pads
