-- What is added to a net.
use Rattle.std.specs.Prelude.{◌≡◌, ◌<◌, ℕ, ◌+◌, ◌*◌, suc, List, [], ◌∷◌, ◌++◌, Some, None, All, length}
use Rattle.std.specs.List.{sum_by}
use Rattle.nor_net.specs.declared.net.NetId.{NetId}
use Rattle.nor_net.specs.declared.net.Phase.TheVariants as phases
use Rattle.nor_net.specs.declared.net.Part.{Part}
use Rattle.nor_net.specs.declared.net.Part.TheVariants.{Input, Gate, Latch}
use Rattle.nor_net.specs.Shape.{gate_inputs, net_limit}
use Rattle.bit_gates.specs.declared.rails.Rails.{Rails}
use Rattle.bit_gates.specs.Size.{active_count}

-- no latch
abbrev pub IsLogic : Part → Type 0
IsLogic Input = Unit {0}
IsLogic (Gate inputs) = Unit {0}
IsLogic (Latch phase source) = ⊥

abbrev pub IsGate : Part → Type 0
IsGate (Gate inputs) = Unit {0}
IsGate _ = ⊥

-- parts were added at the end
abbrev pub AddsLogic : List Part → List Part → Type 0
AddsLogic old new = (more : List Part) × (new ≡ old ++ more) × All IsLogic more

abbrev pub AddsGates : List Part → List Part → Type 0
AddsGates old new = (more : List Part) × (new ≡ old ++ more) × All IsGate more

-- so many nets, inputs of gates, and gates and latches were added
pub record IsCounted (nets inputs active : ℕ) (old new : List Part) : Type 0 where
  pub net_count : length new ≡ length old + nets
  pub input_count : gate_inputs new ≡ gate_inputs old + inputs
  pub active_count : sum_by active_count new ≡ sum_by active_count old + active

-- there is room for what has this cost
pub record HasRoom (cost : ℕ) (parts : List Part) : Type 0 where
  pub room : length parts + 2 * cost < net_limit
  pub inputs_room : gate_inputs parts + 4 * cost < net_limit

-- a gate on these nets and a gate on it were added
pub record IsPair (inputs : List NetId) (old new : List Part) (rails : Rails) : Type 0 where
  pub parts : new ≡ old ++ Gate inputs ∷ Gate (rails.bit ∷ []) ∷ []
  pub at_bit : rails.bit.0 ≡ length old
  pub at_negation : rails.negation.0 ≡ suc (length old)

-- an input and a gate on it were added
pub record IsEntryPair (old new : List Part) (rails : Rails) : Type 0 where
  pub parts : new ≡ old ++ Input ∷ Gate (rails.bit ∷ []) ∷ []
  pub at_bit : rails.bit.0 ≡ length old
  pub at_negation : rails.negation.0 ≡ suc (length old)

-- the exclusive OR of two bits: the NOR of the NORs of both bits and of both negations, and its negation
pub record IsExclusive (a b : Rails) (old new : List Part) (rails : Rails) : Type 0 where
  pub none : NetId
  pub both : NetId
  pub parts : new
      ≡ old ++ Gate (a.bit ∷ b.bit ∷ []) ∷ Gate (a.negation ∷ b.negation ∷ []) ∷ Gate (none ∷ both ∷ []) ∷ Gate
      (rails.bit ∷ []) ∷ []
  pub at_none : none.0 ≡ length old
  pub at_both : both.0 ≡ suc (length old)
  pub at_bit : rails.bit.0 ≡ suc (suc (length old))
  pub at_negation : rails.negation.0 ≡ suc (suc (suc (length old)))

-- an input, the latch of phase C on it and its negation were added
pub record IsPort (old new : List Part) (pad : NetId) (rails : Rails) : Type 0 where
  pub parts : new ≡ old ++ Input ∷ Latch phases.C (Some pad) ∷ Gate (rails.bit ∷ []) ∷ []
  pub at_pad : pad.0 ≡ length old
  pub at_bit : rails.bit.0 ≡ suc (length old)
  pub at_negation : rails.negation.0 ≡ suc (suc (length old))

-- a latch of phase B without data, which has the negation of a bit, and the bit were added
pub record IsSlave (old new : List Part) (rails : Rails) : Type 0 where
  pub parts : new ≡ old ++ Latch phases.B None ∷ Gate (rails.negation ∷ []) ∷ []
  pub at_negation : rails.negation.0 ≡ length old
  pub at_bit : rails.bit.0 ≡ suc (length old)
