-- The first label of a driver on each node, and the first that meets another driver.
use Rattle.std.specs.Prelude.{◌≡◌, ℕ, ◌<◌, List, Option, Some, None, Contains, length, slice_get, slice_index_or}
use Rattle.switch_net.specs.declared.network.Tag.{Tag}
use Rattle.switch_net.specs.Breaks.{IsDrivenTwice, MeetsDriver}

-- the first label of a driver on a node of another driver stands at this offset
pub record IsFirstMeeting (drivers : List (List ℕ)) (tags : List Tag) (offset : ℕ) : Type 0 where
  pub i : ℕ
  pub tag : Tag
  pub twice : IsDrivenTwice drivers tags i tag
  pub first : (j : ℕ) → j < i → ¬ MeetsDriver drivers tags j
  pub offset_is : offset ≡ tag.offset

-- each label's node has room, and each owner is the place of a label
pub record AreWithin (tags : List Tag) (owners : List (Option ℕ)) : Type 0 where
  pub nodes : (k : ℕ) (t : Tag) → slice_get tags k ≡ Some t → t.node < length owners
  pub places : (n j : ℕ) → slice_index_or owners n None ≡ Some j → j < length tags

-- the label at this place names a driver of the node
pub record IsOwner (drivers : List (List ℕ)) (tags : List Tag) (n j : ℕ) : Type 0 where
  pub tag : Tag
  pub at : slice_get tags j ≡ Some tag
  pub driver : Contains drivers tag.name
  pub node : tag.node ≡ n

-- the node of a label has an owner of the same name
pub record HasOwner (tags : List Tag) (owners : List (Option ℕ)) (t : Tag) : Type 0 where
  pub j : ℕ
  pub tag : Tag
  pub held : slice_index_or owners t.node None ≡ Some j
  pub at : slice_get tags j ≡ Some tag
  pub name : tag.name ≡ t.name

-- the labels before i have owners, and none meets another driver
pub record AreOwners (drivers : List (List ℕ)) (tags : List Tag) (owners : List (Option ℕ)) (i : ℕ) : Type 0 where
  pub held : (n j : ℕ) → slice_index_or owners n None ≡ Some j → (j < i) × IsOwner drivers tags n j
  pub each : (k : ℕ) (t : Tag) → k < i → slice_get tags k ≡ Some t → Contains drivers t.name → HasOwner tags owners t
  pub none : (k : ℕ) → k < i → ¬ MeetsDriver drivers tags k
