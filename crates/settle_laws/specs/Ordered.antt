-- Settings in which gates come before what they gate.
use Rattle.std.specs.Prelude.{◌≡◌, ◌<◌, ℕ, Some, None, Contains}
use Rattle.mp_base.specs.declared.value.Trit.TheVariants.{Zero}
use Rattle.switch_net.specs.declared.network.ChannelKind.TheVariants.{Enhancement}
use Rattle.switch_net.specs.declared.network.Channel.{Channel}
use Rattle.switch_net.specs.Settled.{Setting}

-- an enhancement channel whose gate is driven to 0
abbrev pub IsCut : Setting → Channel → Type 0
IsCut s c = (c.kind ≡ Enhancement) × (s.driver c.gate ≡ Some Zero)

-- an undriven gate has a lower rank than what it gates, and the undriven ends of a channel that isn't cut have one rank
pub record IsOrdered (s : Setting) (rank : ℕ → ℕ) : Type 0 where
  pub gates : (c : Channel) (e : ℕ) → Contains s.channels c → c.kind ≡ Enhancement → s.driver c.gate ≡ None
      → Contains c.ends e → s.driver e ≡ None → rank c.gate < rank e
  pub joined : (c : Channel) (a b : ℕ) → Contains s.channels c → ¬ IsCut s c → Contains c.ends a
      → Contains c.ends b → s.driver a ≡ None → s.driver b ≡ None → rank a ≡ rank b
