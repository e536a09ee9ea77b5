-- What the values of a settled network are: the least solution over paths.
use Rattle.std.specs.Prelude.{◌≡◌, ◌≢◌, ◌↔◌, ◌⊎◌, ℕ, List, [], ◌∷◌, Option, Some, None, IsSome, Contains, All, Any}
use Rattle.mp_base.specs.declared.value.Trit.{Trit}
use Rattle.mp_base.specs.declared.value.Trit.TheVariants.{Zero, One, X}
use Rattle.switch_net.specs.declared.network.ChannelKind.{ChannelKind}
use Rattle.switch_net.specs.declared.network.ChannelKind.TheVariants.{Enhancement, Depletion, Partial}
use Rattle.switch_net.specs.declared.network.Channel.{Channel}

-- What a network is settled from: its channels, the drivers, and the values before. Values are those of the nodes by
-- their numbers; a number that is no node's is a node without channels.
pub record Setting : Type 0 where
  pub channels : List Channel
  pub driver : ℕ → Option Trit
  pub before : ℕ → Trit

-- an enhancement channel is on where its gate is 1, a depletion channel always, a partial one is never known to be
abbrev pub KindIsOn : ChannelKind → Trit → Type 0
KindIsOn Enhancement gate = gate ≡ One
KindIsOn Depletion gate = Unit {0}
KindIsOn Partial gate = ⊥

-- an enhancement channel may be on where its gate is 1 or X
abbrev pub KindMayBeOn : ChannelKind → Trit → Type 0
KindMayBeOn Enhancement gate = gate ≢ Zero
KindMayBeOn Depletion gate = Unit {0}
KindMayBeOn Partial gate = Unit {0}

-- the channel is on at these values
abbrev pub IsOn : (ℕ → Trit) → Channel → Type 0
IsOn v c = KindIsOn c.kind (v c.gate)

-- the channel is on or unknown at these values
abbrev pub MayBeOn : (ℕ → Trit) → Channel → Type 0
MayBeOn v c = KindMayBeOn c.kind (v c.gate)

-- a path from a to b along these channels, the last one first: no node after a is a driver
abbrev pub Path : Setting → ℕ → List Channel → ℕ → Type 0
Path s a [] b = a ≡ b
Path s a (c ∷ cs) b =
    (m : ℕ) × Path s a cs m × Contains s.channels c × Contains c.ends m × Contains c.ends b × (s.driver b ≡ None)

-- a path without a depletion channel
abbrev pub IsStrong : List Channel → Type 0
IsStrong cs = All (λ c. c.kind ≢ Depletion) cs

-- a path with a depletion channel
abbrev pub IsWeak : List Channel → Type 0
IsWeak cs = Any (λ c. c.kind ≡ Depletion) cs

-- a path of channels that are on
abbrev pub IsDefinite : (ℕ → Trit) → List Channel → Type 0
IsDefinite v cs = All (IsOn v) cs

-- a path of channels that are on or unknown
abbrev pub IsPossible : (ℕ → Trit) → List Channel → Type 0
IsPossible v cs = All (MayBeOn v) cs

-- a driver of another value than b, X included
abbrev pub IsAgainst : Setting → Trit → ℕ → Type 0
IsAgainst s b a = (t : Trit) × (s.driver a ≡ Some t) × (t ≢ b)

-- a definite strong path from a driver of b reaches n, and no possible strong path from one of another value does
pub record IsStronglyHeld (s : Setting) (v : ℕ → Trit) (n : ℕ) (b : Trit) : Type 0 where
  pub held : (a : ℕ) × (cs : List Channel) × (s.driver a ≡ Some b) × Path s a cs n × IsStrong cs × IsDefinite v cs
  pub unopposed : (a : ℕ) (cs : List Channel) → IsAgainst s b a → Path s a cs n → IsStrong cs → ¬ IsPossible v cs

-- a definite weak path from a driver of b reaches n, and no possible path at all from one of another value does
pub record IsWeaklyHeld (s : Setting) (v : ℕ → Trit) (n : ℕ) (b : Trit) : Type 0 where
  pub held : (a : ℕ) × (cs : List Channel) × (s.driver a ≡ Some b) × Path s a cs n × IsWeak cs × IsDefinite v cs
  pub unopposed : (a : ℕ) (cs : List Channel) → IsAgainst s b a → Path s a cs n → ¬ IsPossible v cs

-- no driver possibly reaches n, and every node possibly joined to it held b before
pub record IsKept (s : Setting) (v : ℕ → Trit) (n : ℕ) (b : Trit) : Type 0 where
  pub alone : (a : ℕ) (cs : List Channel) → IsSome (s.driver a) → Path s a cs n → ¬ IsPossible v cs
  pub charged : (a : ℕ) (cs : List Channel) → Path s a cs n → IsPossible v cs → s.before a ≡ b

-- the three cases in which n is b
abbrev pub Gives : Setting → (ℕ → Trit) → ℕ → Trit → Type 0
Gives s v n b = IsStronglyHeld s v n b ⊎ IsWeaklyHeld s v n b ⊎ IsKept s v n b

-- w has at each node what the drivers and the three cases give, where channels are as v says
pub record Follows (s : Setting) (v w : ℕ → Trit) : Type 0 where
  pub driven : (n : ℕ) (t : Trit) → s.driver n ≡ Some t → w n ≡ t
  pub zero : (n : ℕ) → s.driver n ≡ None → (w n ≡ Zero) ↔ Gives s v n Zero
  pub one : (n : ℕ) → s.driver n ≡ None → (w n ≡ One) ↔ Gives s v n One

-- values that have what they give
abbrev pub IsSolution : Setting → (ℕ → Trit) → Type 0
IsSolution s v = Follows s v v

-- X is below 0 and below 1
abbrev pub IsBelow : (ℕ → Trit) → (ℕ → Trit) → Type 0
IsBelow v w = (n : ℕ) → (v n ≡ X) ⊎ (v n ≡ w n)

-- the least solution
pub record IsSettled (s : Setting) (v : ℕ → Trit) : Type 0 where
  pub solution : IsSolution s v
  pub least : (w : ℕ → Trit) → IsSolution s w → IsBelow v w
