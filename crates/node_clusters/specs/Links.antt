-- The channels of each node.
use Rattle.std.specs.Prelude.{◌≡◌, ◌<◌, ◌↔◌, ◌⊎◌, ℕ, List, [], slice_index_or, Contains}
use Rattle.switch_net.specs.declared.network.ChannelKind.TheVariants.{Enhancement}
use Rattle.switch_net.specs.declared.network.Channel.{Channel}

-- the numbers of the channels that are listed at a node
abbrev pub listed : List (List ℕ) → ℕ → List ℕ
listed lists n = slice_index_or lists n []

-- a number is added at each of these nodes, and nothing else
abbrev pub AddsLink : List ℕ → ℕ → List (List ℕ) → List (List ℕ) → Type 0
AddsLink nodes j old new = (n i : ℕ)
    → Contains (listed new n) i ↔ (Contains (listed old n) i ⊎ ((i ≡ j) × Contains nodes n))

-- each of the first channels is listed at its ends, and no other channel anywhere
pub record AreLinked (channels : List Channel) (first : ℕ) (lists : List (List ℕ)) : Type 0 where
  pub inside : (n j : ℕ) → Contains (listed lists n) j → j < first
  pub ends : (n j : ℕ) (c : Channel) → Contains (listed lists n) j → Contains (slice_index_or channels j c).ends n
  pub all : (n j : ℕ) (c : Channel) → j < first → Contains (slice_index_or channels j c).ends n
      → Contains (listed lists n) j

-- a channel's ends are added at its gate, where it is enhancement, and no entry goes
pub record AddsGated (c : Channel) (old new : List (List ℕ)) : Type 0 where
  pub kept : (g e : ℕ) → Contains (listed old g) e → Contains (listed new g) e
  pub added : (e : ℕ) → c.kind ≡ Enhancement → Contains c.ends e → Contains (listed new c.gate) e

-- at each node the ends of each enhancement channel that it gates
abbrev pub AreGated : List Channel → List (List ℕ) → Type 0
AreGated channels lists = (c : Channel) (e : ℕ) → Contains channels c → c.kind ≡ Enhancement → Contains c.ends e
    → Contains (listed lists c.gate) e
