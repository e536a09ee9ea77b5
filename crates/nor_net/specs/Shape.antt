-- The shape of a net: gates stand after their inputs, and a latch's data is a gate or, in phase C, an input.
use Rattle.std.specs.Prelude.{◌≡◌, ◌<◌, ◌^◌, ℕ, List, [], ◌∷◌, ◌++◌, Option, Some, None, All, IsSome, IfSome, length}
use Rattle.std.specs.Prelude.{slice_get, slice_index_or, if◌then◌else◌, ◌==◌, take}
use Rattle.std.specs.List.{sum_by}
use Rattle.mp_base.specs.declared.value.Trit.{Trit}
use Rattle.mp_base.specs.declared.value.Trit.TheVariants.{X}
use Rattle.nor_net.specs.declared.net.Phase.{Phase}
use Rattle.nor_net.specs.declared.net.Phase.TheVariants.{C}
use Rattle.nor_net.specs.declared.net.NetId.{NetId}
use Rattle.nor_net.specs.declared.net.NetKind as kind
use Rattle.nor_net.specs.declared.net.NetKind.TheVariants as kinds
use Rattle.nor_net.specs.declared.net.Part.{Part}
use Rattle.nor_net.specs.declared.net.Part.TheVariants.{Input, Gate, Latch}
use Rattle.nor_net.specs.Elements.{Spot, nets_of}
use Rattle.nor_net.specs.Settled.{Setting}

-- there are fewer nets than this, and fewer inputs of gates
abbrev pub net_limit : ℕ
net_limit = 2 ^ 24

-- how many inputs a part has as a gate
abbrev pub fan_in : Part → ℕ
fan_in (Gate inputs) = length inputs
fan_in _ = 0

-- how many gate inputs there are
abbrev pub gate_inputs : List Part → ℕ
gate_inputs parts = sum_by fan_in parts

-- a latch of this phase may take its data from this part
abbrev pub MayFeed : Phase → Option Part → Type 0
MayFeed phase None = ⊥
MayFeed phase (Some (Gate inputs)) = Unit {0}
MayFeed phase (Some Input) = phase ≡ C
MayFeed phase (Some (Latch p s)) = ⊥

-- a part may stand at this number: a gate's inputs stand before it, and a latch's data may feed it
abbrev pub Stands : List Part → ℕ → Part → Type 0
Stands parts n Input = Unit {0}
Stands parts n (Gate inputs) = All (λ j. j.0 < n) inputs
Stands parts n (Latch phase source) = IfSome source (λ m. MayFeed phase (slice_get parts m.0))

-- there are few parts, and each stands where it may
pub record IsNet (parts : List Part) : Type 0 where
  pub few_nets : length parts < net_limit
  pub few_inputs : gate_inputs parts < net_limit
  pub stand : (n : ℕ) (p : Part) → slice_get parts n ≡ Some p → Stands parts n p

-- this part was added at the end, with this number
pub record IsAdded (old : List Part) (part : Part) (new : List Part) (id : NetId) : Type 0 where
  pub number : id.0 ≡ length old
  pub parts : new ≡ old ++ part ∷ []

-- a latch that has no data may take it from this part
abbrev pub MayTake : Option Part → Option Part → Type 0
MayTake (Some (Latch phase None)) source = MayFeed phase source
MayTake _ source = ⊥

-- a latch with its data, in place of one that has none
abbrev pub fed : NetId → Part → Part
fed source (Latch phase None) = Latch phase (Some source)
fed source part = part

-- a latch has its data
abbrev pub Fed : Part → Type 0
Fed (Latch phase source) = IsSome source
Fed _ = Unit {0}

-- every latch has its data
abbrev pub IsFed : List Part → Type 0
IsFed parts = All Fed parts

-- what a caller sees of a part
abbrev pub kind_of : Part → kind.NetKind
kind_of Input = kinds.Input
kind_of (Gate inputs) = kinds.Gate
kind_of (Latch phase source) = kinds.Latch phase source

-- an input counts one
abbrev pub input_count : Part → ℕ
input_count Input = 1
input_count _ = 0

-- how many inputs there are
abbrev pub count_inputs : List Part → ℕ
count_inputs parts = sum_by input_count parts

-- values as a list, one for each net of a net that stands alone
abbrev pub values_at : List Trit → Spot → Trit
values_at values s = if s.band == 0 then slice_index_or values s.net X else X

-- the value that is given to an input: the inputs take theirs in order
abbrev pub given_at : List Part → List Trit → Spot → Trit
given_at parts inputs s = slice_index_or inputs (count_inputs (take s.net parts)) X

-- one setting of a net that stands alone
abbrev pub setting_of : List Part → Option Phase → List Trit → List Trit → Setting
setting_of parts phase inputs values =
    record { nets = nets_of parts; phase = phase; given = given_at parts inputs; before = values_at values }
