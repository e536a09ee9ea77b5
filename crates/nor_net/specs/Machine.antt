-- Stored bits of two latches, and what a clock does to them.
use Rattle.std.specs.Prelude.{◌≡◌, ℕ, [], ◌∷◌, Option, Some, Bool, true, false, if◌then◌else◌}
use Rattle.mp_base.specs.declared.value.Trit.{Trit}
use Rattle.mp_base.specs.declared.value.Trit.TheVariants.{One}
use Rattle.nor_net.specs.declared.net.Phase.TheVariants.{A, B, C}
use Rattle.nor_net.specs.Elements.{Spot, Given, Nor, Latched, Nets}
use Rattle.nor_net.specs.Settled.{Setting, IsSolution}
use Rattle.nor_net.specs.Clock.{IsClockBy}
use Rattle.nor_net.specs.Laws.{bit}

-- a stored bit: a latch of phase A on its data, its negation, and a latch of phase B on that, which is the negation of
-- the bit
pub record Store : Type 0 where
  pub master : Spot
  pub negation : Spot
  pub slave : Spot
  pub source : Spot

-- a latch of phase C on a pad
pub record Port : Type 0 where
  pub latch : Spot
  pub pad : Spot

pub record IsStore (nets : Nets) (b : Store) : Type 0 where
  pub master : nets b.master ≡ Some (Latched A b.source)
  pub negation : nets b.negation ≡ Some (Nor (b.master ∷ []))
  pub slave : nets b.slave ≡ Some (Latched B b.negation)

pub record IsPort (nets : Nets) (p : Port) : Type 0 where
  pub latch : nets p.latch ≡ Some (Latched C p.pad)
  pub pad : nets p.pad ≡ Some Given

-- Stored bits by their names, which are two numbers: bit k of cell c. The same for latches of pads.
abbrev pub Stores : Type 0
Stores = ℕ → ℕ → Option Store

abbrev pub Ports : Type 0
Ports = ℕ → ℕ → Option Port

abbrev pub AreStores : Nets → Stores → Type 0
AreStores nets stores = (c k : ℕ) (b : Store) → stores c k ≡ Some b → IsStore nets b

abbrev pub ArePorts : Nets → Ports → Type 0
ArePorts nets ports = (c k : ℕ) (p : Port) → ports c k ≡ Some p → IsPort nets p

-- the stored bits are these, each told by its slave
abbrev pub HoldsState : Stores → (ℕ → ℕ → Bool) → (Spot → Trit) → Type 0
HoldsState stores state v =
    (c k : ℕ) (b : Store) → stores c k ≡ Some b → v b.slave ≡ bit (if state c k then false else true)

-- the latches of the pads have these bits
abbrev pub HoldsInputs : Ports → (ℕ → ℕ → Bool) → (Spot → Trit) → Type 0
HoldsInputs ports inputs v = (c k : ℕ) (p : Port) → ports c k ≡ Some p → v p.latch ≡ bit (inputs c k)

-- the pads are given these bits
abbrev pub GivesInputs : Ports → (ℕ → ℕ → Bool) → (Spot → Trit) → Type 0
GivesInputs ports inputs values = (c k : ℕ) (p : Port) → ports c k ≡ Some p → values p.pad ≡ bit (inputs c k)

-- the sources of the masters have these bits
abbrev pub HasNext : Stores → (ℕ → ℕ → Bool) → (Spot → Trit) → Type 0
HasNext stores next v = (c k : ℕ) (b : Store) → stores c k ≡ Some b → v b.source ≡ bit (next c k)

-- in every solution of these nets in which P holds, Q holds
abbrev pub Whenever : Nets → ((Spot → Trit) → Type 0) → ((Spot → Trit) → Type 0) → Type 0
Whenever nets P Q = (s : Setting) (v : Spot → Trit) → s.nets ≡ nets → IsSolution s v → P v → Q v

-- these are the values of some setting of the nets
abbrev pub Solves : Nets → (Spot → Trit) → Type 0
Solves nets v = (s : Setting) × (s.nets ≡ nets) × IsSolution s v

-- A clock from a definite state: what it shows is a solution with that state and these inputs, and the state after it
-- is what the masters are
-- given wherever state and inputs are these.
abbrev pub ClockSteps : Type 0
ClockSteps =
    (nets : Nets) (stores : Stores) (ports : Ports) → AreStores nets stores → ArePorts nets ports
    → (values before shown after : Spot → Trit) → IsClockBy IsSolution nets values before shown after
    → (state inputs next : ℕ → ℕ → Bool) → HoldsState stores state before → GivesInputs ports inputs values
    → Whenever nets (λ v. HoldsState stores state v × HoldsInputs ports inputs v) (HasNext stores next)
    → Solves nets shown × HoldsState stores state shown × HoldsInputs ports inputs shown × HoldsState stores next after

-- A clock from any values with the reset pad at 1, where its latch at 1 makes the source of every master 0: the state
-- after it is 0.
abbrev pub ResetClears : Type 0
ResetClears =
    (nets : Nets) (stores : Stores) (reset : Port) → AreStores nets stores → IsPort nets reset
    → (values before shown after : Spot → Trit) → IsClockBy IsSolution nets values before shown after
    → values reset.pad ≡ One
    → Whenever nets (λ v. v reset.latch ≡ One) (HasNext stores (λ c k. false)) → HoldsState stores (λ c k. false) after
