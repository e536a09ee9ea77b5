-- The numbers of a network's nodes and channels, and of its nodes of one value.
use Rattle.std.specs.Prelude.{ℕ, zero, suc, ◌+◌, Bool, true, false, count_by, if◌then◌else◌}
use Rattle.mp_base.specs.declared.value.Trit.{Trit}
use Rattle.mp_base.specs.declared.value.Trit.TheVariants.{Zero, One, X}
use Rattle.switch_net.specs.declared.network.ChannelKind.{ChannelKind}
use Rattle.switch_net.specs.declared.network.ChannelKind.TheVariants.{Enhancement, Depletion, Partial}
use Rattle.switch_net.specs.declared.network.Network.{Network}

-- whether two kinds are one
abbrev pub same_kind : ChannelKind → ChannelKind → Bool
same_kind Enhancement Enhancement = true
same_kind Depletion Depletion = true
same_kind Partial Partial = true
same_kind _ _ = false

-- how many channels of a kind the network has
abbrev pub channels_of : Network → ChannelKind → ℕ
channels_of net kind = count_by (λ c. same_kind kind c.kind) net.channels

-- whether two values are one
abbrev pub same_value : Trit → Trit → Bool
same_value Zero Zero = true
same_value One One = true
same_value X X = true
same_value _ _ = false

-- how many of the first n nodes have the value
abbrev pub count_below : (ℕ → Trit) → Trit → ℕ → ℕ
count_below values b zero = 0
count_below values b (suc n) = count_below values b n + (if same_value b (values n) then 1 else 0)

-- how many nodes of the network have the value
abbrev pub nodes_with : Network → (ℕ → Trit) → Trit → ℕ
nodes_with net values b = count_below values b net.nodes
