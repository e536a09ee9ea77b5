-- How each net of a circuit of NOR gates and latches gets its value.
use Rattle.std.specs.Prelude.{ℕ, List, Option, Some, None, map, if◌then◌else◌, ◌==◌, slice_get}
use Rattle.nor_net.specs.declared.net.Phase.{Phase}
use Rattle.nor_net.specs.declared.net.NetId.{NetId}
use Rattle.nor_net.specs.declared.net.Part.{Part}
use Rattle.nor_net.specs.declared.net.Part.TheVariants.{Input, Gate, Latch}

-- a place for a net. A net that stands alone has all its places in band 0; a data path has its control in band 0 and
-- its slices in the
-- bands above.
pub record Spot : Type 0 where
  pub band : ℕ
  pub net : ℕ

-- how a net gets its value: it is given one, it is the NOR of others, it takes another's in a phase and holds it else,
-- it is joined to
-- another, or it is set to 0
pub data Element : Type 0 where
  Given : Element
  Nor : List Spot → Element
  Latched : Phase → Spot → Element
  Joined : Spot → Element
  Low : Element

-- which places have a net, and how each gets its value
abbrev pub Nets : Type 0
Nets = Spot → Option Element

-- the place of a net in a band
abbrev pub spot : ℕ → NetId → Spot
spot band id = record { band = band; net = id.0 }

-- a latch that isn't fed has no way to a value
abbrev pub latch_element : ℕ → Phase → Option NetId → Option Element
latch_element band phase None = None
latch_element band phase (Some source) = Some (Latched phase (spot band source))

-- how a part gets its value, where it stands in this band
abbrev pub element_of : ℕ → Part → Option Element
element_of band Input = Some Given
element_of band (Gate inputs) = Some (Nor (map (spot band) inputs))
element_of band (Latch phase source) = latch_element band phase source

-- the same where there may be none
abbrev pub part_element : ℕ → Option Part → Option Element
part_element band None = None
part_element band (Some part) = element_of band part

-- a net that stands alone
abbrev pub nets_of : List Part → Nets
nets_of parts s = if s.band == 0 then part_element 0 (slice_get parts s.net) else None
