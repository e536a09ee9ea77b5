-- Paths as an inductive family, and the three cases by what is reached.
use Rattle.std.specs.Prelude.{◌≡◌, ◌≢◌, ◌⊎◌, ℕ, Some, None, IsSome, Contains}
use Rattle.mp_base.specs.declared.value.Trit.{Trit}
use Rattle.switch_net.specs.declared.network.ChannelKind.TheVariants.{Depletion}
use Rattle.switch_net.specs.declared.network.Channel.{Channel}
use Rattle.switch_net.specs.Settled.{Setting, IsOn, MayBeOn, IsAgainst}

-- n is reached from a node of which `from` holds, over channels that are allowed
pub data Reach (s : Setting) (allowed : Channel → Type 0) (from : ℕ → Type 0) : ℕ → Type 0 where
  here : {n : ℕ} → from n → Reach s allowed from n
  over : {a b : ℕ} → (c : Channel) → Reach s allowed from a → Contains s.channels c → Contains c.ends a
      → Contains c.ends b → s.driver b ≡ None → allowed c → Reach s allowed from b

-- a channel of a strong path that is on
abbrev pub IsStrongOn : (ℕ → Trit) → Channel → Type 0
IsStrongOn v c = (c.kind ≢ Depletion) × IsOn v c

-- a channel of a strong path that is on or unknown
abbrev pub MayBeStrongOn : (ℕ → Trit) → Channel → Type 0
MayBeStrongOn v c = (c.kind ≢ Depletion) × MayBeOn v c

-- a driver of b
abbrev pub IsFor : Setting → Trit → ℕ → Type 0
IsFor s b a = s.driver a ≡ Some b

-- a node that keeps what it reaches from keeping b
abbrev pub IsForeign : Setting → Trit → ℕ → Type 0
IsForeign s b a = (IsSome (s.driver a)) ⊎ (s.before a ≢ b)

-- n is b: held by a strong path or by any, and not opposed by one of that sort, or kept
abbrev pub GivesByReach : Setting → (ℕ → Trit) → ℕ → Trit → Type 0
GivesByReach s v n b =
    (Reach s (IsStrongOn v) (IsFor s b) n × ¬ Reach s (MayBeStrongOn v) (IsAgainst s b) n)
    ⊎ (Reach s (IsOn v) (IsFor s b) n × ¬ Reach s (MayBeOn v) (IsAgainst s b) n)
    ⊎ ¬ Reach s (MayBeOn v) (IsForeign s b) n
