-- What it means that channels draw nets, by their places: a net that stands alone, or a data path.
use Rattle.std.specs.Prelude.{◌≡◌, ◌≢◌, ◌↔◌, ◌⊎◌, ℕ, List, Option, Some, None, AllPairs, Contains}
use Rattle.switch_net.specs.declared.network.ChannelKind.TheVariants.{Enhancement, Depletion}
use Rattle.switch_net.specs.declared.network.Channel.{Channel}
use Rattle.nor_net.specs.declared.net.Phase.{Phase}
use Rattle.nor_net.specs.Elements.{Spot, Element, Given, Nor, Latched, Joined, Low, Nets}

-- what has a node in a drawing
pub data Point : Type 0 where
  OfNet : Spot → Point
  Ground : Point
  Power : Point
  OfPhase : Phase → Point

-- an element of its own: the net is neither joined to another nor set to 0
abbrev pub IsOwn : Option Element → Type 0
IsOwn None = ⊥
IsOwn (Some Given) = Unit {0}
IsOwn (Some (Nor inputs)) = Unit {0}
IsOwn (Some (Latched p source)) = Unit {0}
IsOwn (Some (Joined other)) = ⊥
IsOwn (Some Low) = ⊥

abbrev pub HasOwnNode : Nets → Point → Type 0
HasOwnNode nets (OfNet n) = IsOwn (nets n)
HasOwnNode nets Ground = Unit {0}
HasOwnNode nets Power = Unit {0}
HasOwnNode nets (OfPhase p) = Unit {0}

abbrev pub HasEnds : Channel → ℕ → ℕ → Type 0
HasEnds c a b = (x : ℕ) → Contains c.ends x ↔ ((x ≡ a) ⊎ (x ≡ b))

pub record IsPullDown (node : Point → ℕ) (input gate : Spot) (c : Channel) : Type 0 where
  pub enhancement : c.kind ≡ Enhancement
  pub by : c.gate ≡ node (OfNet input)
  pub joins : HasEnds c (node (OfNet gate)) (node Ground)

pub record IsPullUp (node : Point → ℕ) (n : ℕ) (c : Channel) : Type 0 where
  pub depletion : c.kind ≡ Depletion
  pub by : c.gate ≡ n
  pub joins : HasEnds c n (node Power)

pub record IsPass (node : Point → ℕ) (p : Phase) (source store : Spot) (c : Channel) : Type 0 where
  pub enhancement : c.kind ≡ Enhancement
  pub by : c.gate ≡ node (OfPhase p)
  pub joins : HasEnds c (node (OfNet source)) (node (OfNet store))

-- some channel is such
abbrev pub Has : List Channel → (Channel → Type 0) → Type 0
Has channels IsSuch = (c : Channel) × Contains channels c × IsSuch c

-- what a channel of a drawing is
pub data IsDrawn (nets : Nets) (node : Point → ℕ) (c : Channel) : Type 0 where
  pull_down : (n : Spot) (inputs : List Spot) (i : Spot) → nets n ≡ Some (Nor inputs) → Contains inputs i
      → IsPullDown node i n c → IsDrawn nets node c
  pull_up : (n : Spot) (inputs : List Spot) → nets n ≡ Some (Nor inputs) → IsPullUp node (node (OfNet n)) c
      → IsDrawn nets node c
  pass : (n : Spot) (p : Phase) (source : Spot) → nets n ≡ Some (Latched p source) → IsPass node p source n c
      → IsDrawn nets node c
  -- on a node of no net
  lone : (k : ℕ) → ((p : Point) → HasOwnNode nets p → ¬ (node p ≡ k)) → IsPullUp node k c → IsDrawn nets node c

-- two pull-ups are of two nodes
abbrev pub PullUpsApart : Channel → Channel → Type 0
PullUpsApart c d = c.kind ≡ Depletion → d.kind ≡ Depletion → c.gate ≢ d.gate

-- The channels draw the nets along a map that gives a node to each net, to ground, to power and to each phase.
-- Different ones have different nodes, but for nets that are joined or set to 0; there are no other channels, and no
-- node has two pull-ups.
pub record Draws (channels : List Channel) (nets : Nets) (node : Point → ℕ) : Type 0 where
  pub apart : (p q : Point) → HasOwnNode nets p → HasOwnNode nets q → node p ≡ node q → p ≡ q
  pub lows : (n : Spot) → nets n ≡ Some Low → node (OfNet n) ≡ node Ground
  pub joins : (n m : Spot) → nets n ≡ Some (Joined m) → node (OfNet n) ≡ node (OfNet m)
  pub pull_downs : (n : Spot) (inputs : List Spot) (i : Spot) → nets n ≡ Some (Nor inputs) → Contains inputs i
      → Has channels (IsPullDown node i n)
  pub pull_ups : (n : Spot) (inputs : List Spot) → nets n ≡ Some (Nor inputs)
      → Has channels (IsPullUp node (node (OfNet n)))
  pub passes : (n : Spot) (p : Phase) (source : Spot) → nets n ≡ Some (Latched p source)
      → Has channels (IsPass node p source n)
  pub only : (c : Channel) → Contains channels c → IsDrawn nets node c
  pub alone : AllPairs PullUpsApart channels
