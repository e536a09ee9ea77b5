-- Why a circuit is refused.
use Rattle.std.specs.Prelude.{◌≡◌, ℕ, ◌<◌, List, Option, None, Some}
use Rattle.mp_base.specs.declared.refusal.Refusal.{Refusal}
use Rattle.mp_base.specs.declared.refusal.Broken.{Broken}
use Rattle.mp_base.specs.Refuses.{IsRefusal}
use Rattle.mp_base.specs.declared.refusal.Spot.TheVariants.{Named}
use Rattle.mp_base.specs.declared.pad.Pads.{Pads}
use Rattle.switch_net.specs.declared.network.Network.{Network}
use Rattle.switch_net.specs.Breaks.{HasPads, IsMissing, IsFirstOfCircuit, broken}

-- the first of the labels that is missing, and the place of its name
pub record IsMissingLabel (net : Network) (wanted : List (List ℕ)) (name : List ℕ) : Type 0 where
  pub i : ℕ
  pub missing : IsMissing net wanted i name
  pub first : (j : ℕ) (other : List ℕ) → j < i → ¬ IsMissing net wanted j other

-- want of memory, or the first label that is missing
abbrev pub IsMissingFirst : Network → List (List ℕ) → Refusal → Type 0
IsMissingFirst net wanted =
    IsRefusal (λ b. (name : List ℕ) × IsMissingLabel net wanted name × (b ≡ broken 4 (Named name)))

-- the network has the pads, or this is the first rule that is broken
abbrev pub OfCircuit : Network → Pads → Option Broken → Type 0
OfCircuit net pads None = HasPads net pads
OfCircuit net pads (Some b) = IsFirstOfCircuit net pads b

-- want of memory, or the first rule that is broken
abbrev pub IsRefused : Network → Pads → Refusal → Type 0
IsRefused net pads = IsRefusal (λ b. OfCircuit net pads (Some b))
