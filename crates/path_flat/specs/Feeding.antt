-- A latch of the flat net takes its data.
use Rattle.std.specs.Prelude.{◌≡◌, List, Some, IfSome, slice_get, slice_set}
use Rattle.nor_net.specs.declared.net.NetId.{NetId}
use Rattle.nor_net.specs.declared.net.Part.{Part}
use Rattle.nor_net.specs.declared.net.Part.TheVariants.{Latch}
use Rattle.nor_net.specs.Elements.{Spot, spot}
use Rattle.nor_net.specs.Shape.{MayTake, fed}
use Rattle.path_flat.specs.declared.places.Place.{Place}
use Rattle.path_flat.specs.Numbers.{spot_of}

-- what stands for the latch at this place may take what stands for its data
abbrev pub MayTakeAt : (Spot → NetId) → Place → List Part → Part → Type 0
MayTakeAt of place flat (Latch phase (Some m)) =
    MayTake (slice_get flat (of (spot_of place)).0) (slice_get flat (of (spot place.band m)).0)
MayTakeAt of place flat _ = Unit {0}

-- it took it, and no other net changed
abbrev pub IsFedAt : (Spot → NetId) → Place → List Part → List Part → Part → Type 0
IsFedAt of place old new (Latch phase (Some m)) =
    IfSome (slice_get old (of (spot_of place)).0)
    (λ latch. new ≡ slice_set old (of (spot_of place)).0 (fed (of (spot place.band m)) latch))
IsFedAt of place old new _ = new ≡ old
