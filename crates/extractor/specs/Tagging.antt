-- Labels on the nodes that they name.
use Rattle.std.specs.Prelude.{◌≡◌, ◌≢◌, ◌⊎◌, ℕ, ◌<◌, List, length, get_or, Option, Some, None, Contains, slice_get}
use Rattle.mp_base.specs.declared.refusal.Spot.TheVariants.{Offset}
use Rattle.mp_base.specs.declared.refusal.Broken.{Broken}
use Rattle.mp_base.specs.declared.refusal.Refusal.{Refusal}
use Rattle.mp_base.specs.Refuses.{IsRefusal}
use Rattle.lam_geom.specs.declared.label.FlatLabel.{FlatLabel}
use Rattle.switch_net.specs.declared.network.Tag.{Tag}
use Rattle.switch_net.specs.Breaks.{broken}
use Rattle.switch_net.specs.OneNode.{OneNodeEach}

-- the tag of a label on this node, where its name is known on no other
pub record IsTagged (known : Option ℕ) (label : FlatLabel) (node : Option ℕ) (tag : Tag) : Type 0 where
  pub offset : label.offset ≡ tag.offset
  pub name : label.name ≡ tag.name
  pub node_is : node ≡ Some tag.node
  pub one : known ≡ None ⊎ known ≡ Some tag.node

-- the label names no node
pub record IsUnnamed (label : FlatLabel) (node : Option ℕ) (b : Broken) : Type 0 where
  pub none : node ≡ None
  pub rule : b ≡ broken 2 (Offset label.offset)

-- the label's name is known on another node
pub record IsElsewhere (known : Option ℕ) (label : FlatLabel) (node : Option ℕ) (b : Broken) : Type 0 where
  pub first : ℕ
  pub second : ℕ
  pub known_on : known ≡ Some first
  pub names : node ≡ Some second
  pub apart : first ≢ second
  pub rule : b ≡ broken 1 (Offset label.offset)

-- want of memory, of which nothing is said, or what a label breaks
abbrev pub RefusesLabel : Option ℕ → FlatLabel → Option ℕ → Refusal → Type 0
RefusesLabel known label on = IsRefusal (λ b. IsUnnamed label on b ⊎ IsElsewhere known label on b)

-- the tags of the first `count` labels
pub record AreTagged (labels : List FlatLabel) (nodes : List (Option ℕ)) (count : ℕ) (tags : List Tag) : Type 0 where
  pub long : length tags ≡ count
  pub each : (n : ℕ) (label : FlatLabel) (tag : Tag) → n < count → slice_get labels n ≡ Some label
      → slice_get tags n ≡ Some tag
      → (label.offset ≡ tag.offset) × (label.name ≡ tag.name) × (get_or nodes n None ≡ Some tag.node)
  pub one_node_each : OneNodeEach tags

-- an earlier tag has the label's name on another node
pub record IsTwice (tags : List Tag) (label : FlatLabel) (node : Option ℕ) (b : Broken) : Type 0 where
  pub tag : Tag
  pub earlier : Contains tags tag
  pub name : tag.name ≡ label.name
  pub second : ℕ
  pub names : node ≡ Some second
  pub apart : tag.node ≢ second
  pub rule : b ≡ broken 1 (Offset label.offset)

-- the label at this place is the first that breaks N1 or N2
pub record IsFirstRefused (labels : List FlatLabel) (nodes : List (Option ℕ)) (b : Broken) : Type 0 where
  pub place : ℕ
  pub label : FlatLabel
  pub at : slice_get labels place ≡ Some label
  pub tags : List Tag
  pub before : AreTagged labels nodes place tags
  pub breaks : IsUnnamed label (get_or nodes place None) b ⊎ IsTwice tags label (get_or nodes place None) b

abbrev pub RefusesFirst : List FlatLabel → List (Option ℕ) → Refusal → Type 0
RefusesFirst labels nodes = IsRefusal (IsFirstRefused labels nodes)

-- the map has the names of the tags on their nodes
pub record AreSeen (find : List ℕ → Option ℕ) (tags : List Tag) : Type 0 where
  pub here : (tag : Tag) → Contains tags tag → find tag.name ≡ Some tag.node
  pub from : (name : List ℕ) (node : ℕ) → find name ≡ Some node
      → (tag : Tag) × Contains tags tag × (tag.name ≡ name) × (tag.node ≡ node)
