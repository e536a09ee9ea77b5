-- The nets of a fabric, and the network that its switches make.
use Rattle.std.specs.Prelude.{ℕ, ◌≡◌, ◌⊎◌, ◌↔◌, ◌<◌, List, [], filter, Bool, true, false, AllPairs, Contains}
use Rattle.std.specs.List.{AllZip}
use Rattle.tile_cells.specs.declared.tile.Tile.{Tile}
use Rattle.tile_cells.specs.declared.tile.Tile.TheVariants.{TapL, TapR, Tran, PullUp, Under}
use Rattle.lam_geom.specs.Chains.{Chain}
use Rattle.switch_net.specs.declared.network.ChannelKind.{ChannelKind}
use Rattle.switch_net.specs.declared.network.ChannelKind.TheVariants.{Enhancement, Depletion}
use Rattle.switch_net.specs.declared.network.Channel.{Channel}
use Rattle.switch_net.specs.declared.network.Network.{Network}
use Rattle.fabric.specs.declared.thing.Side.{Side}
use Rattle.fabric.specs.declared.thing.Side.TheVariants.{L, R}
use Rattle.fabric.specs.declared.thing.Segment.{Segment}
use Rattle.fabric.specs.declared.thing.Line.{Line}
use Rattle.fabric.specs.declared.thing.Mark.{Mark}
use Rattle.fabric.specs.Plan.{Plan, Crosses, Passes}

-- the nets of a fabric are its segments, its lines, ground and power
pub data Net : Type 0 where
  segment : Segment → Net
  line : Line → Net
  ground : Net
  power : Net

abbrev pub IsNet : Plan → Net → Type 0
IsNet f (segment s) = Contains f.segments s
IsNet f (line l) = Contains f.lines l
IsNet f ground = Unit {0}
IsNet f power = Unit {0}

-- the line on that side of the mark's column, in its band
pub record LineOf (f : Plan) (m : Mark) (side : Side) (n : Net) : Type 0 where
  pub the_line : Line
  pub among : Contains f.lines the_line
  pub passes : Passes the_line side m.band m.column
  pub is : n ≡ line the_line

-- the segment that crosses the mark
pub record SegmentOf (f : Plan) (m : Mark) (n : Net) : Type 0 where
  pub the_segment : Segment
  pub among : Contains f.segments the_segment
  pub crosses : Crosses the_segment m.band m.row m.column
  pub is : n ≡ segment the_segment

-- what a tap joins its line to: in row 0 the ground, and else the segment that crosses it
abbrev pub IsTapped : Plan → Mark → Net → Type 0
IsTapped f m n = (m.row ≡ 0) × (n ≡ ground) ⊎ SegmentOf f m n

abbrev pub IsTapOn : Side → Tile → Type 0
IsTapOn L t = t ≡ TapL
IsTapOn R t = t ≡ TapR

-- a tap joins its line and what it is tapped to
pub record Taps (f : Plan) (n m : Net) : Type 0 where
  pub mark : Mark
  pub among : Contains f.marks mark
  pub side : Side
  pub tile : IsTapOn side mark.tile
  pub the_line : LineOf f mark side n
  pub other : IsTapped f mark m

pub data Tapped (f : Plan) (n m : Net) : Type 0 where
  up : Taps f n m → Tapped f n m
  down : Taps f m n → Tapped f n m

-- numbers below a count for what taps join
pub record AreNumbers (f : Plan) (count : ℕ) (number : Net → ℕ) : Type 0 where
  pub below : (n : Net) → IsNet f n → number n < count
  pub onto : (k : ℕ) → k < count → (n : Net) × IsNet f n × (number n ≡ k)
  pub same : (n m : Net) → IsNet f n → IsNet f m → (number n ≡ number m) ↔ Chain (Tapped f) n m

-- the marks that are switches
abbrev pub is_switch : Mark → Bool
is_switch m = elim m.tile [ TapL ↦ false | TapR ↦ false | Tran ↦ true | PullUp ↦ true | Under ↦ false ]

abbrev pub HasGate : Plan → Mark → Net → Type 0
HasGate f m n = (m.tile ≡ Tran) × SegmentOf f m n ⊎ (m.tile ≡ PullUp) × LineOf f m L n

abbrev pub HasEnd : Plan → Mark → Net → Type 0
HasEnd f m n = (m.tile ≡ Tran) × (LineOf f m L n ⊎ LineOf f m R n) ⊎ (m.tile ≡ PullUp) × (LineOf f m L n ⊎ (n ≡ power))

abbrev pub HasKind : Mark → ChannelKind → Type 0
HasKind m k = (m.tile ≡ Tran) × (k ≡ Enhancement) ⊎ (m.tile ≡ PullUp) × (k ≡ Depletion)

pub record IsSwitch (f : Plan) (number : Net → ℕ) (m : Mark) (c : Channel) : Type 0 where
  pub gate : (n : Net) × HasGate f m n × (c.gate ≡ number n)
  pub ascending : AllPairs (λ j k. j < k) c.ends
  pub ends : (k : ℕ) → Contains c.ends k ↔ ((n : Net) × HasEnd f m n × (number n ≡ k))
  pub kind : HasKind m c.kind

-- a channel for each switch, in the order of the marks
abbrev pub AreChannels : Plan → (Net → ℕ) → List Channel → Type 0
AreChannels f number channels = AllZip (IsSwitch f number) (filter is_switch f.marks) channels

-- the network of a fabric, along a numbering of its nets
pub record AreSwitches (f : Plan) (number : Net → ℕ) (net : Network) : Type 0 where
  pub nodes : AreNumbers f net.nodes number
  pub channels : AreChannels f number net.channels
  pub tags : net.tags ≡ []
