-- Networks that are sized: each pull-up is tied, and has one transistor between it and ground.
use Rattle.std.specs.Prelude.{◌≡◌, ◌≢◌, ◌⊎◌, ℕ, List, ◌∷◌, AllPairs, Contains, codes, length}
use Rattle.switch_net.specs.declared.network.ChannelKind.TheVariants.{Depletion, Enhancement, Partial}
use Rattle.switch_net.specs.declared.network.Channel.{Channel}
use Rattle.switch_net.specs.declared.network.Network.{Network}
use Rattle.switch_net.specs.Clock.{IsLabelled}
use Rattle.drawing.specs.Draws.{PullUpsApart}
use Rattle.ground_ways.specs.Ways.{AreOnce, IsTied, IsWay}

-- a phase's label is on the node
abbrev pub IsPhase : Network → ℕ → Type 0
IsPhase n node =
    IsLabelled n (codes "phia") node ⊎ IsLabelled n (codes "phib") node ⊎ IsLabelled n (codes "phic") node

-- No channel has implant in a part of it. Each depletion channel is a pull-up, no node has two of them, and no other
-- channel ends at power. Each enhancement channel ends at ground or has a phase as its gate. And from an end of a
-- pull-up, where it isn't power, each path of enhancement channels to ground that visits no node twice has exactly one.
pub record IsRatioed (n : Network) : Type 0 where
  pub not_partial : (c : Channel) → Contains n.channels c → c.kind ≢ Partial
  pub ground : ℕ
  pub power : ℕ
  pub is_ground : IsLabelled n (codes "gnd") ground
  pub is_power : IsLabelled n (codes "vdd") power
  pub tied : (d : Channel) → Contains n.channels d → d.kind ≡ Depletion → IsTied power d
  pub alone : AllPairs PullUpsApart n.channels
  pub fed : (c : Channel) → Contains n.channels c → Contains c.ends power → c.kind ≡ Depletion
  pub clocked : (c : Channel) → Contains n.channels c → c.kind ≡ Enhancement → Contains c.ends ground ⊎ IsPhase n c.gate
  pub one_channel : (d : Channel) (a : ℕ) (ms : List ℕ) → Contains n.channels d → d.kind ≡ Depletion
      → Contains d.ends a → a ≢ power → IsWay n.channels a ms ground → AreOnce (a ∷ ms) → length ms ≡ 1
