-- What is added for a cell.
use Rattle.std.specs.Prelude.{◌≡◌, ◌≤◌, ◌==◌, ◌*◌, ℕ, suc, List, [], ◌∷◌, ◌++◌, Option, Some, None, if◌then◌else◌}
use Rattle.std.specs.Prelude.{MatchBool, length, slice_get, slice_set}
use Rattle.std.specs.List.{AllZip, filter}
use Rattle.nor_net.specs.declared.net.NetId.{NetId}
use Rattle.nor_net.specs.declared.net.Phase.TheVariants as phases
use Rattle.nor_net.specs.declared.net.Part.{Part}
use Rattle.nor_net.specs.declared.net.Part.TheVariants.{Gate, Latch}
use Rattle.rtl_form.specs.declared.rtl.Cell as cells
use Rattle.rtl_form.specs.declared.rtl.CellKind.{CellKind}
use Rattle.rtl_form.specs.declared.rtl.CellKind.TheVariants.{Input, Stored}
use Rattle.rtl_form.specs.declared.rtl.Transfer.{Transfer}
use Rattle.bit_gates.specs.declared.rails.Rails.{Rails}
use Rattle.bit_gates.specs.Adding.{AddsGates, IsCounted, IsPair, IsPort, IsSlave}
use Rattle.bit_gates.specs.Rails.{IsNamed, Named, swapped}

-- the transfers to a cell, in order
abbrev pub transfers_to : List Transfer → ℕ → List Transfer
transfers_to transfers c = filter (λ (t : Transfer). t.target == c) transfers

-- guard and value of a transfer have names
abbrev pub IsTransferNamed : List (Option Rails) → Transfer → Type 0
IsTransferNamed exprs t = IsNamed exprs t.guard × IsNamed exprs t.value

-- the term of a transfer, behind the first nets: the value where the guard is 1, and 0 elsewhere
pub record IsTerm (exprs : List (Option Rails)) (first : ℕ) (parts : List Part) (t : Transfer)
    (id : NetId) : Type 0 where
  pub guard : Rails
  pub value : Rails
  pub is_guard : Named exprs t.guard guard
  pub is_value : Named exprs t.value value
  pub behind : first ≤ id.0
  pub is_gate : slice_get parts id.0 ≡ Some (Gate (value.negation ∷ guard.negation ∷ []))

-- the terms of these transfers were added
pub record AreTerms (exprs : List (Option Rails)) (ts : List Transfer) (old new : List Part)
    (terms : List NetId) : Type 0 where
  pub adds : AddsGates old new
  pub counted : IsCounted (length ts) (2 * length ts) (length ts) old new
  pub each : AllZip (IsTerm exprs (length old) new) ts terms

-- a net has the guard of a transfer
abbrev pub GuardOf : List (Option Rails) → Transfer → NetId → Type 0
GuardOf exprs t id = (rails : Rails) × Named exprs t.guard rails × (id ≡ rails.bit)

-- what is added for a driven bit: the terms, their NOR, and the bit
pub record IsDrivenMade (exprs : List (Option Rails)) (ts : List Transfer) (old new : List Part)
    (rails : Rails) : Type 0 where
  pub middle : List Part
  pub terms : List NetId
  pub are_terms : AreTerms exprs ts old middle terms
  pub pair : IsPair terms middle new (swapped rails)

-- What is added for the data of the master of a stored bit: the terms; the hold term, which is the bit where no guard
-- is 1; the NOR of all terms; and the NOR of that and reset.
pub record IsSourceMade (exprs : List (Option Rails)) (ts : List Transfer) (slave reset : NetId)
    (old new : List Part) (source : NetId) : Type 0 where
  pub middle : List Part
  pub terms : List NetId
  pub guards : List NetId
  pub hold : NetId
  pub off : NetId
  pub are_terms : AreTerms exprs ts old middle terms
  pub are_guards : AllZip (GuardOf exprs) ts guards
  pub parts : new ≡ middle ++ Gate (guards ++ slave ∷ []) ∷ Gate (terms ++ hold ∷ []) ∷ Gate (off ∷ reset ∷ []) ∷ []
  pub at_hold : hold.0 ≡ length middle
  pub at_off : off.0 ≡ suc (length middle)
  pub at_source : source.0 ≡ suc (suc (length middle))

-- what is added for the next value: the data, the master on it, and the negation of the master, which feeds the slave
pub record IsNextMade (exprs : List (Option Rails)) (ts : List Transfer) (slave reset : NetId)
    (old new : List Part) : Type 0 where
  pub middle : List Part
  pub grown : List Part
  pub source : NetId
  pub master : NetId
  pub negation : NetId
  pub is_source : IsSourceMade exprs ts slave reset old middle source
  pub is_grown : grown ≡ middle ++ Latch phases.A (Some source) ∷ Gate (master ∷ []) ∷ []
  pub at_master : master.0 ≡ length middle
  pub at_negation : negation.0 ≡ suc (length middle)
  pub is_fed : new ≡ slice_set grown slave.0 (Latch phases.B (Some negation))

-- What is added first for a bit that is an input or stored, and for no other cell. The net of an input's pad gets its
-- name.
abbrev pub IsFirstBitMade : CellKind → List Part → List Part → List (Option NetId) → List (Option NetId)
    → Option Rails → Type 0
IsFirstBitMade (Input k) old new pads named o =
    (pad : NetId) × (rails : Rails) × (o ≡ Some rails) × IsPort old new pad rails
    × (named ≡ slice_set pads k (Some pad))
IsFirstBitMade Stored old new pads named o = (rails : Rails) × (o ≡ Some rails) × IsSlave old new rails
    × (named ≡ pads)
IsFirstBitMade kind old new pads named o = (o ≡ None) × (new ≡ old) × (named ≡ pads)

abbrev pub IsFirstMade : cells.Cell → List Part → List Part → List (Option NetId) → List (Option NetId)
    → Option Rails → Type 0
IsFirstMade x old new pads named o =
    MatchBool x.word ((o ≡ None) × (new ≡ old) × (named ≡ pads)) (IsFirstBitMade x.kind old new pads named o)

-- the cost of the latch of an input, or of the slave of what is stored
abbrev pub latch_cost : CellKind → ℕ
latch_cost (Input k) = 2
latch_cost Stored = 2
latch_cost kind = 0

-- the cost of the first nets of a cell, and of its next value but for transfers
abbrev pub first_cost : cells.Cell → ℕ
first_cost x = if x.word then 0 else latch_cost x.kind
