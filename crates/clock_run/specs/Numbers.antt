-- Numbers by name.
use Rattle.std.specs.Prelude.{◌≡◌, ◌≢◌, ℕ, List, Contains, MatchOption}
use Rattle.std.specs.BTreeMap.{BTreeMap}
use denote.Ref.{Bor}
use Rattle.switch_net.specs.declared.network.Tag.{Tag}
use Rattle.switch_net.specs.Names.{number_of}

-- one of these tags puts the name on this node
abbrev pub IsTagged : List Tag → List ℕ → ℕ → Type 0
IsTagged tags x node = (t : Tag) × Contains tags t × (t.name ≡ x) × (t.node ≡ node)

-- the names of tags have the numbers of their nodes, and other names have none
abbrev pub NumberNodes : List Tag → BTreeMap (Bor (List ℕ)) ℕ → Type 0
NumberNodes tags numbers = (x : List ℕ)
    → MatchOption (number_of numbers x) ((t : Tag) → Contains tags t → t.name ≢ x) (IsTagged tags x)
