-- What the nets of one band become, by what gives them their values.
use Rattle.std.specs.Prelude.{◌≡◌, ◌⊎◌, ℕ, List, [], ◌∷◌, Some, None, Bool, true, false, All, Contains, slice_get, ◌==◌, nat_lt, not}
use Rattle.std.specs.List.{list_any}
use Rattle.nor_net.specs.declared.net.NetId.{NetId}
use Rattle.nor_net.specs.declared.net.Phase.{Phase}
use Rattle.nor_net.specs.declared.net.Part.{Part}
use Rattle.nor_net.specs.declared.net.Part.TheVariants.{Input, Gate, Latch}
use Rattle.path_sources.specs.declared.sources.Source.{Source}
use Rattle.path_sources.specs.declared.sources.Source.TheVariants.{Pad, Below, Above, Bits, Control, Slice}
use Rattle.path_reduce.specs.declared.images.Becomes.{Becomes}
use Rattle.path_reduce.specs.declared.images.Becomes.TheVariants.{Net, Low, High, LeftOut}
use Rattle.path_reduce.specs.declared.images.Images.{Images}
use Rattle.path_reduce.specs.Tables.{becomes_at}

-- it isn't left out
abbrev pub stays : Becomes → Bool
stays LeftOut = false
stays _ = true

abbrev pub is_low : Becomes → Bool
is_low Low = true
is_low _ = false

abbrev pub is_high : Becomes → Bool
is_high High = true
is_high _ = false

-- it is this net
abbrev pub is_net : NetId → Becomes → Bool
is_net k (Net j) = j.0 == k.0
is_net k _ = false

-- it is always 0, or one of these nets
abbrev pub is_among : List NetId → Becomes → Bool
is_among others Low = true
is_among others (Net k) = list_any (λ (other : NetId). other.0 == k.0) others
is_among others _ = false

-- the inputs, but for those that are always 0, become these nets
pub record BecomeNets (table : List Becomes) (inputs others : List NetId) : Type 0 where
  pub each : All (λ (m : NetId). (becomes_at table m.0 ≡ Low) ⊎ ((k : NetId) × (becomes_at table m.0 ≡ Net k) × Contains others k)) inputs
  pub only : All (λ (k : NetId). (m : NetId) × Contains inputs m × (becomes_at table m.0 ≡ Net k)) others

-- a gate on what the inputs become
abbrev pub OnImages : List Becomes → List Part → List NetId → NetId → Type 0
OnImages table parts inputs k =
    (others : List NetId) × (slice_get parts k.0 ≡ Some (Gate others)) × BecomeNets table inputs others

-- the inputs become one net, which inverts this one
abbrev pub OnInverse : List Becomes → List Part → List NetId → NetId → Type 0
OnInverse table parts inputs k =
    (j : NetId) × (slice_get parts j.0 ≡ Some (Gate (k ∷ []))) × BecomeNets table inputs (j ∷ [])

-- what a gate on these inputs may become, among these parts
abbrev pub GateBecomes : List Becomes → List Part → List NetId → Becomes → Type 0
GateBecomes table parts inputs (Net k) = OnImages table parts inputs k ⊎ OnInverse table parts inputs k
GateBecomes table parts inputs Low = All (λ (m : NetId). stays (becomes_at table m.0) ≡ true) inputs
    × ((m : NetId) × Contains inputs m × (becomes_at table m.0 ≡ High))
GateBecomes table parts inputs High = All (λ (m : NetId). becomes_at table m.0 ≡ Low) inputs
GateBecomes table parts inputs LeftOut = Unit {0}

-- what a latch of this phase with these data may become
abbrev pub LatchBecomes : List Becomes → List Part → Phase → NetId → Becomes → Type 0
LatchBecomes table parts phase m (Net k) =
    (j : NetId) × (becomes_at table m.0 ≡ Net j) × (slice_get parts k.0 ≡ Some (Latch phase (Some j)))
LatchBecomes table parts phase m LeftOut = Unit {0}
LatchBecomes table parts phase m _ = ⊥

-- what gives an input its value becomes this
abbrev pub Moves : Images → Source → Source → Type 0
Moves t Pad to = to ≡ Pad
Moves t (Below from) to = (j : NetId) × (becomes_at t.slices from.0 ≡ Net j) × (to ≡ Below j)
Moves t (Above from) to = (j : NetId) × (becomes_at t.slices from.0 ≡ Net j) × (to ≡ Above j)
Moves t (Bits bits) to = to ≡ Bits bits
Moves t (Control from) to = (j : NetId) × (becomes_at t.control from.0 ≡ Net j) × (to ≡ Control j)
Moves t (Slice k from) to = (j : NetId) × (becomes_at t.slices from.0 ≡ Net j) × (to ≡ Slice k j)

-- what gives an input its value is always 0; an end of a chain that is open is so
abbrev pub IsLowSource : Images → Source → Type 0
IsLowSource t Pad = ⊥
IsLowSource t (Below from) = becomes_at t.slices from.0 ≡ Low
IsLowSource t (Above from) = becomes_at t.slices from.0 ≡ Low
IsLowSource t (Bits bits) = bits ≡ 0
IsLowSource t (Control from) = becomes_at t.control from.0 ≡ Low
IsLowSource t (Slice k from) = becomes_at t.slices from.0 ≡ Low

-- it is always 1
abbrev pub IsHighSource : Images → Source → Type 0
IsHighSource t (Control from) = becomes_at t.control from.0 ≡ High
IsHighSource t (Slice k from) = becomes_at t.slices from.0 ≡ High
IsHighSource t _ = ⊥

-- a source that an input of the control, or of one of w slices, may have
abbrev pub is_source : ℕ → Bool → Source → Bool
is_source w control (Below from) = not control
is_source w control (Above from) = not control
is_source w control (Slice k from) = nat_lt k w
is_source w control _ = true

-- what an input with this source may become, among these parts with these sources
abbrev pub InputBecomes : Images → List Part → (ℕ → Source) → Source → Becomes → Type 0
InputBecomes t parts sources source (Net k) =
    (slice_get parts k.0 ≡ Some Input) × Moves t source (sources k.0)
InputBecomes t parts sources source Low = IsLowSource t source
InputBecomes t parts sources source High = IsHighSource t source
InputBecomes t parts sources source LeftOut = Unit {0}

-- what a part may become; this table is that of its band
abbrev pub PartBecomes : Images → List Becomes → List Part → (ℕ → Source) → Source → Part → Becomes → Type 0
PartBecomes t table parts sources source Input b = InputBecomes t parts sources source b
PartBecomes t table parts sources source (Gate inputs) b = GateBecomes table parts inputs b
PartBecomes t table parts sources source (Latch phase (Some m)) b = LatchBecomes table parts phase m b
PartBecomes t table parts sources source (Latch phase None) b = Unit {0}
