-- The network that a mask with labels draws.
use Rattle.std.specs.Prelude.{◌≡◌, ◌↔◌, ℕ, ◌<◌, List, length, ℤ, AllPairs, Contains}
use Rattle.std.specs.List.{AllZip}
use Rattle.lam_geom.specs.declared.layer.Layer.{Layer}
use Rattle.lam_geom.specs.declared.label.FlatLabel.{FlatLabel}
use Rattle.lam_geom.specs.declared.layer.Layer.TheVariants.{ND, NI}
use Rattle.lam_geom.specs.Chains.{Chain}
use Rattle.lam_geom.specs.Squares.{Square, Adjoin, ShareEdge, Before}
use Rattle.switch_net.specs.declared.network.ChannelKind.{ChannelKind}
use Rattle.switch_net.specs.declared.network.ChannelKind.TheVariants.{Enhancement, Depletion, Partial}
use Rattle.switch_net.specs.declared.network.Channel.{Channel}
use Rattle.switch_net.specs.declared.network.Tag.{Tag}
use Rattle.switch_net.specs.declared.network.Network.{Network}
use Rattle.switch_net.specs.Classes.{AreClasses, IsInClass}
use Rattle.switch_net.specs.Conductors.{Conducts, Joined, IsChannelSquare}
use Rattle.switch_net.specs.Labels.{Names}

-- the least squares of the nodes, in order: a node is a class of joined conductors
abbrev pub AreNodes : (Layer → ℤ → ℤ → Type 0) → List Square → Type 0
AreNodes covers nodes = AreClasses (Conducts covers) (Joined covers) Before nodes

-- the square is of the node with this number
abbrev pub IsOfNode : (Layer → ℤ → ℤ → Type 0) → List Square → ℕ → Square → Type 0
IsOfNode covers nodes k s = IsInClass (Joined covers) nodes k s

-- the least squares of the channels, in order: a channel is a region of channel squares that share edges
abbrev pub AreRegions : (Layer → ℤ → ℤ → Type 0) → List Square → Type 0
AreRegions covers regions = AreClasses (IsChannelSquare covers) (Adjoin (IsChannelSquare covers)) Before regions

-- s is a square of the channel whose least square is r
pub record IsOfChannel (covers : Layer → ℤ → ℤ → Type 0) (r s : Square) : Type 0 where
  pub is : IsChannelSquare covers s
  pub chain : Chain (Adjoin (IsChannelSquare covers)) r s

-- the diffusion at t conducts and shares an edge with a square of the channel of r
pub record IsEnd (covers : Layer → ℤ → ℤ → Type 0) (r t : Square) : Type 0 where
  pub square : Square
  pub of : IsOfChannel covers r square
  pub diffusion : t.layer ≡ ND
  pub conducts : Conducts covers t
  pub beside : ShareEdge square t

-- no square of an enhancement channel has implant, each of a depletion channel has, and of a partial one some have
abbrev pub IsKind : (Layer → ℤ → ℤ → Type 0) → Square → ChannelKind → Type 0
IsKind covers r Enhancement = (s : Square) → IsOfChannel covers r s → ¬ covers NI s.x s.y
IsKind covers r Depletion = (s : Square) → IsOfChannel covers r s → covers NI s.x s.y
IsKind covers r Partial =
    ((s : Square) × IsOfChannel covers r s × covers NI s.x s.y)
    × ((s : Square) × IsOfChannel covers r s × ¬ covers NI s.x s.y)

-- c is the channel whose least square is r: its gate is the node of its polysilicon, its ends those of the diffusion
-- beside it
pub record IsChannelAt (covers : Layer → ℤ → ℤ → Type 0) (nodes : List Square) (r : Square) (c : Channel) : Type 0 where
  pub gate : IsOfNode covers nodes c.gate r
  pub ascending : AllPairs (λ j k. j < k) c.ends
  pub ends : (k : ℕ) → Contains c.ends k ↔ ((t : Square) × IsEnd covers r t × IsOfNode covers nodes k t)
  pub kind : IsKind covers r c.kind

-- the tag says on which node the conductor is that the label names
pub record IsTag (covers : Layer → ℤ → ℤ → Type 0) (nodes : List Square) (label : FlatLabel) (tag : Tag) : Type 0 where
  pub offset : label.offset ≡ tag.offset
  pub name : label.name ≡ tag.name
  pub square : Square
  pub names : Names covers label square
  pub node : IsOfNode covers nodes tag.node square

-- the network of what is covered, with these labels: nodes and channels are numbered in the order of their least
-- squares, and the tags are in the order of the labels
pub record IsNetwork (covers : Layer → ℤ → ℤ → Type 0) (labels : List FlatLabel) (net : Network) : Type 0 where
  pub nodes : List Square
  pub regions : List Square
  pub are_nodes : AreNodes covers nodes
  pub are_regions : AreRegions covers regions
  pub count : net.nodes ≡ length nodes
  pub channels : AllZip (IsChannelAt covers nodes) regions net.channels
  pub tags : AllZip (IsTag covers nodes) labels net.tags
