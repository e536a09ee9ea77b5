-- Labels of drivers on nodes of other drivers.
use Rattle.std.specs.Prelude.{◌≡◌, ℕ, ◌+◌, ◌<◌, Bool, true, false, List, Option, Some, None, Contains, slice_get}
use Rattle.mp_base.specs.PadNames.{supplies}
use Rattle.switch_net.specs.declared.network.Tag.{Tag}
use Rattle.switch_net.specs.Breaks.{IsDrivenTwice, MeetsDriver}

-- the first label that meets another driver is at this offset
pub record IsFirstMeeting (tags : List Tag) (offset : ℕ) : Type 0 where
  pub place : ℕ
  pub tag : Tag
  pub meets : IsDrivenTwice supplies tags place tag
  pub none_before : (j : ℕ) → j < place → ¬ MeetsDriver supplies tags j
  pub offset_is : offset ≡ tag.offset

-- the offset of the first label that meets another driver, or none where no label does
abbrev pub FindsMeeting : List Tag → Option ℕ → Type 0
FindsMeeting tags None = (i : ℕ) → ¬ MeetsDriver supplies tags i
FindsMeeting tags (Some offset) = IsFirstMeeting tags offset

-- the first label of a driver on each node
pub record AreFirst (find : ℕ → Option ℕ) (tags : List Tag) (count : ℕ) : Type 0 where
  pub from : (node place : ℕ) → find node ≡ Some place
      → (tag : Tag) × (place < count) × (slice_get tags place ≡ Some tag) × Contains supplies tag.name
      × (tag.node ≡ node)
  pub here : (j : ℕ) (tag : Tag) → j < count → slice_get tags j ≡ Some tag → Contains supplies tag.name
      → (place : ℕ) × (first : Tag) × (find tag.node ≡ Some place) × (slice_get tags place ≡ Some first)
      × (first.name ≡ tag.name)
  pub apart : (j : ℕ) → j < count → ¬ MeetsDriver supplies tags j

-- the label at this place is on a node of another driver, or it is noted as the others are
abbrev pub TellsMeeting : (ℕ → Option ℕ) → List Tag → ℕ → Bool → Type 0
TellsMeeting find tags place true = (tag : Tag) × IsDrivenTwice supplies tags place tag
TellsMeeting find tags place false = AreFirst find tags (place + 1)
