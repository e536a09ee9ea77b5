-- Pull-ups, and paths of transistors from them to ground.
use Rattle.std.specs.Prelude.{◌≡◌, ◌≢◌, ◌⊎◌, ℕ, List, [], ◌∷◌, Contains, length}
use Rattle.switch_net.specs.declared.network.ChannelKind.TheVariants.{Enhancement, Depletion}
use Rattle.switch_net.specs.declared.network.Channel.{Channel}
use Rattle.nor_net.specs.declared.net.Phase.{Phase}
use Rattle.nor_net.specs.Elements.{Nets}
use Rattle.drawing.specs.Draws.{Point, Ground, Power, OfPhase, Draws, HasEnds}
use Rattle.drawn_nets.specs.Law.{AreFed}

-- the nodes that a path of enhancement channels goes to, one after another, from a to b
abbrev pub IsWay : List Channel → ℕ → List ℕ → ℕ → Type 0
IsWay channels a [] b = a ≡ b
IsWay channels a (m ∷ ms) b =
    ((c : Channel) × Contains channels c × (c.kind ≡ Enhancement) × Contains c.ends a × Contains c.ends m) × (a ≢ m)
    × IsWay channels m ms b

-- no node is visited twice
abbrev pub Avoids : ℕ → List ℕ → Type 0
Avoids a [] = Unit {0}
Avoids a (m ∷ ms) = (a ≢ m) × Avoids a ms

abbrev pub AreOnce : List ℕ → Type 0
AreOnce [] = Unit {0}
AreOnce (m ∷ ms) = Avoids m ms × AreOnce ms

-- a pull-up: it joins power to the node of its own gate, which isn't power
pub record IsTied (power : ℕ) (d : Channel) : Type 0 where
  pub gate : d.gate ≢ power
  pub joins : HasEnds d d.gate power

-- where nets are drawn, each depletion channel is a pull-up, and no other channel ends at power
abbrev pub PullUpsAreTied : Type 0
PullUpsAreTied =
    (channels : List Channel) (nets : Nets) (node : Point → ℕ) → Draws channels nets node → AreFed nets
    → (c : Channel) → Contains channels c
    → (c.kind ≡ Depletion → IsTied (node Power) c) × (Contains c.ends (node Power) → c.kind ≡ Depletion)

-- where nets are drawn, each transistor ends at ground or has a phase as its gate
abbrev pub TransistorsAreClocked : Type 0
TransistorsAreClocked =
    (channels : List Channel) (nets : Nets) (node : Point → ℕ) → Draws channels nets node
    → (c : Channel) → Contains channels c → c.kind ≡ Enhancement
    → Contains c.ends (node Ground) ⊎ ((p : Phase) × (c.gate ≡ node (OfPhase p)))

-- where nets are drawn, each path to ground from a pull-up is one transistor
abbrev pub OneToGround : Type 0
OneToGround =
    (channels : List Channel) (nets : Nets) (node : Point → ℕ) → Draws channels nets node → AreFed nets
    → (d : Channel) (a : ℕ) (ms : List ℕ) → Contains channels d → d.kind ≡ Depletion → Contains d.ends a
    → a ≢ node Power → IsWay channels a ms (node Ground) → AreOnce (a ∷ ms) → length ms ≡ 1
