-- Values of which it is known where they may not be what is given.
use Rattle.std.specs.Prelude.{◌≡◌, ◌↔◌, ◌⊎◌, ℕ, Option, None, Contains}
use Rattle.mp_base.specs.declared.value.Trit.{Trit}
use Rattle.mp_base.specs.declared.value.Trit.TheVariants.{Zero, One}
use Rattle.switch_net.specs.declared.network.ChannelKind.TheVariants.{Enhancement}
use Rattle.switch_net.specs.declared.network.Channel.{Channel}
use Rattle.switch_net.specs.Settled.{Setting, MayBeOn, Gives}
use Rattle.switch_net.specs.Reaching.{Reach}

-- the value t is what v gives n: it is 0 or 1 where that is given, and else X
abbrev pub IsGiven : Setting → (ℕ → Trit) → ℕ → Trit → Type 0
IsGiven s v n t = ((t ≡ Zero) ↔ Gives s v n Zero) × ((t ≡ One) ↔ Gives s v n One)

-- each undriven node that isn't possibly joined to one that waits has what it is given
abbrev pub IsTold : Setting → (ℕ → Trit) → (ℕ → Type 0) → Type 0
IsTold s v waits = (n : ℕ) → s.driver n ≡ None → ¬ Reach s (MayBeOn v) waits n → IsGiven s v n (v n)

-- other drivers: v becomes w, and what may change at once waits
pub record IsRedriven (s : Setting) (driver : ℕ → Option Trit) (v w : ℕ → Trit) (waits : ℕ → Type 0) : Type 0 where
  pub lost : (n : ℕ) → driver n ≡ None → (s.driver n ≡ None) ⊎ waits n
  pub kept : (n : ℕ) → driver n ≡ None → w n ≡ v n
  pub gated : (c : Channel) (e : ℕ) → Contains s.channels c → c.kind ≡ Enhancement → Contains c.ends e
      → driver e ≡ None → (w c.gate ≡ v c.gate) ⊎ waits e
  pub beside : (c : Channel) (e a : ℕ) → Contains s.channels c → Contains c.ends e → Contains c.ends a
      → driver e ≡ None → (driver a ≡ s.driver a) ⊎ waits e

-- a look at a cluster: its nodes have in w what v gives them, and of the others those wait that waited, or that a node
-- gates which changed
pub record IsLook (s : Setting) (v w : ℕ → Trit) (cluster before after : ℕ → Type 0) : Type 0 where
  pub undriven : (n : ℕ) → before n → s.driver n ≡ None
  pub waiting : (n : ℕ) → before n → after n ⊎ cluster n
  pub closed : (c : Channel) (a n : ℕ) → cluster a → Contains s.channels c → Contains c.ends a → Contains c.ends n
      → s.driver n ≡ None → MayBeOn v c → cluster n
  pub known : (n : ℕ) → cluster n ⊎ ¬ cluster n
  pub given : (n : ℕ) → cluster n → IsGiven s v n (w n)
  pub kept : (n : ℕ) → ¬ cluster n → w n ≡ v n
  pub gated : (c : Channel) (e : ℕ) → Contains s.channels c → c.kind ≡ Enhancement → Contains c.ends e
      → s.driver e ≡ None → (w c.gate ≡ v c.gate) ⊎ after e
