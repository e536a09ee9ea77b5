-- Sets of nodes that spread over channels of one sort.
use Rattle.std.specs.Prelude.{◌≡◌, ◌≢◌, ◌↔◌, ◌⊎◌, ℕ, ◌<◌, ◌≤◌, List, Option, Some, None, IsSome, length, slice_index}
use Rattle.std.specs.Prelude.{Contains}
use Rattle.mp_base.specs.declared.value.Trit.{Trit}
use Rattle.switch_net.specs.declared.network.ChannelKind.{ChannelKind}
use Rattle.switch_net.specs.declared.network.ChannelKind.TheVariants.{Depletion}
use Rattle.switch_net.specs.declared.network.Channel.{Channel}
use Rattle.switch_net.specs.Settled.{Setting, KindIsOn, KindMayBeOn}
use Rattle.switch_net.specs.Reaching.{Reach}
use Rattle.node_clusters.specs.declared.route.Route.{Route}
use Rattle.node_clusters.specs.declared.route.Route.TheVariants.{StrongOn, StrongMaybe, On, Maybe}
use Rattle.node_clusters.specs.declared.route.Source.{Source}
use Rattle.node_clusters.specs.declared.route.Source.TheVariants.{For, Against, Any}

-- whether a path of this sort may use a channel of this kind, by the value of its gate
abbrev pub KindUses : Route → ChannelKind → Trit → Type 0
KindUses StrongOn k t = (k ≢ Depletion) × KindIsOn k t
KindUses StrongMaybe k t = (k ≢ Depletion) × KindMayBeOn k t
KindUses On k t = KindIsOn k t
KindUses Maybe k t = KindMayBeOn k t

abbrev pub Uses : Route → (ℕ → Trit) → Channel → Type 0
Uses route v c = KindUses route c.kind (v c.gate)

-- whether paths may begin at a node with this driver
abbrev pub IsSourceOf : Source → Option Trit → Type 0
IsSourceOf (For b) driver = driver ≡ Some b
IsSourceOf (Against b) driver = (t : Trit) × (driver ≡ Some t) × (t ≢ b)
IsSourceOf Any driver = IsSome driver

abbrev pub IsSource : Source → Setting → ℕ → Type 0
IsSource source s a = IsSourceOf source (s.driver a)

-- a channel that is allowed joins m to a node of which `from` holds
abbrev pub Borders : Setting → (Channel → Type 0) → (ℕ → Type 0) → ℕ → Type 0
Borders s allowed from m =
    (c : Channel) × Contains s.channels c × allowed c × Contains c.ends m × (a : ℕ) × Contains c.ends a × from a

-- a channel that is allowed joins a to the undriven node n
abbrev pub Adjoins : Setting → (Channel → Type 0) → ℕ → ℕ → Type 0
Adjoins s allowed a n =
    (c : Channel) × Contains s.channels c × allowed c × Contains c.ends a × Contains c.ends n × (s.driver n ≡ None)

-- the new list begins as the old one
pub record Extends (old new : List ℕ) : Type 0 where
  pub longer : length old ≤ length new
  pub same : (k : ℕ) → k < length old → slice_index new k ≡ slice_index old k

-- the undriven ones of these nodes come in, and nothing else
pub record AddsEnds (driver : ℕ → Option Trit) (ends old new : List ℕ) : Type 0 where
  pub extends : Extends old new
  pub added : (n : ℕ) → Contains ends n → driver n ≡ None → Contains new n
  pub only : (n : ℕ) → Contains new n → Contains old n ⊎ (Contains ends n × (driver n ≡ None))

-- what adjoins a comes in, and nothing else
pub record AddsAdjoining (s : Setting) (allowed : Channel → Type 0) (a : ℕ) (old new : List ℕ) : Type 0 where
  pub extends : Extends old new
  pub added : (n : ℕ) → Adjoins s allowed a n → Contains new n
  pub only : (n : ℕ) → Contains new n → Contains old n ⊎ Adjoins s allowed a n

-- what the old nodes reach comes in, and nothing else
pub record Spreads (s : Setting) (allowed : Channel → Type 0) (old new : List ℕ) : Type 0 where
  pub kept : (n : ℕ) → Contains old n → Contains new n
  pub reached : (n : ℕ) → Contains new n → Reach s allowed (Contains old) n
  pub closed : (a n : ℕ) → Contains new a → Adjoins s allowed a n → Contains new n

-- those of the nodes of which a fact holds
abbrev pub Picks : (ℕ → Type 0) → List ℕ → List ℕ → Type 0
Picks P nodes picked = (n : ℕ) → Contains picked n ↔ (Contains nodes n × P n)

-- of these nodes, those that the sources reach
abbrev pub HoldsReached : Setting → (Channel → Type 0) → (ℕ → Type 0) → List ℕ → List ℕ → Type 0
HoldsReached s allowed from nodes held = (n : ℕ) → Contains nodes n → Contains held n ↔ Reach s allowed from n
