-- The first nets of cells: the latches of inputs, and the slaves of stored bits.
use Rattle.std.specs.Prelude.{◌≡◌, ◌<◌, ◌≤◌, ℕ, suc, List, [], ◌∷◌, ◌++◌, Option, Some, None, true, false, length}
use Rattle.std.specs.Prelude.{slice_get, take}
use Rattle.std.specs.List.{sum_by}
use Rattle.mp_base.specs.declared.value.Trit.{Trit}
use Rattle.nor_net.specs.Elements.{Spot}
use Rattle.nor_net.specs.declared.net.NetId.{NetId}
use Rattle.nor_net.specs.declared.net.Phase.{Phase}
use Rattle.nor_net.specs.declared.net.Phase.TheVariants as phases
use Rattle.nor_net.specs.declared.net.Part.{Part}
use Rattle.nor_net.specs.declared.net.Part.TheVariants as parts
use Rattle.rtl_form.specs.declared.rtl.Cell as cells
use Rattle.rtl_form.specs.declared.rtl.CellKind.TheVariants as kinds
use Rattle.rtl_form.specs.declared.rtl.Rtl.{Rtl}
use Rattle.mp_base.specs.Entries.{IsAt}
use Rattle.rtl_form.specs.Environment.{is_driven}
use Rattle.bit_gates.specs.declared.rails.Rails.{Rails}
use Rattle.bit_gates.specs.Cells.{first_cost}
use Rattle.control_nor.specs.Lowering.{InputBit, ObeysBehind, Stands}
use Rattle.bit_gates.specs.Rails.{Agree, AllBelow, Named}
use Rattle.bit_gates.specs.Size.{IsWithinCost}

-- the slave of a stored bit, which waits for its data, and the bit behind it
pub record IsWaiting (net : List Part) (rails : Rails) : Type 0 where
  pub is_slave : slice_get net rails.negation.0 ≡ Some (parts.Latch phases.B None)
  pub is_bit : slice_get net rails.bit.0 ≡ Some (parts.Gate (rails.negation ∷ []))
  pub behind : rails.bit.0 ≡ suc rails.negation.0

-- which of the first i cells have nets
pub record AreFirstNamed (r : Rtl) (i : ℕ) (old new : List Part) (named : List (Option Rails)) : Type 0 where
  pub count : length named ≡ i
  pub below : AllBelow (length new) named
  pub behind : (c : ℕ) (rails : Rails) → Named named c rails → length old ≤ rails.bit.0
  pub negation_behind : (c : ℕ) (rails : Rails) → Named named c rails → length old ≤ rails.negation.0
  pub apart : (c d : ℕ) (p q : Rails) → Named named c p → Named named d q → p.bit.0 ≡ q.bit.0 → c ≡ d
  pub bits_only : (c : ℕ) (x : cells.Cell) (rails : Rails) → IsAt r.cells c x → Named named c rails → x.word ≡ false
  pub first : (c : ℕ) (x : cells.Cell) → c < i → IsAt r.cells c x → x.word ≡ false → is_driven x.kind ≡ false
      → (rails : Rails) × Named named c rails
  pub waiting : (c : ℕ) (x : cells.Cell) → c < i → IsAt r.cells c x → is_driven x.kind ≡ true
      → slice_get named c ≡ Some None

-- the pads of the first i cells, and what else is among their nets
pub record AreFirstNets (r : Rtl) (i : ℕ) (old new : List Part) (named : List (Option Rails))
    (pads : List (Option NetId)) : Type 0 where
  pub pad_count : length pads ≡ length (r.pads).inputs
  pub pads_only : (k : ℕ) (pad : NetId) → Stands pads k pad
      → (c : ℕ) × (x : cells.Cell) × (c < i) × IsAt r.cells c x × (x.kind ≡ kinds.Input k) × (x.word ≡ false)
  pub pads_in : (k : ℕ) (pad : NetId) → Stands pads k pad
      → (length old ≤ pad.0) × (slice_get new pad.0 ≡ Some parts.Input)
  pub pads_apart : (j k : ℕ) (id : NetId) → Stands pads j id → Stands pads k id → j ≡ k
  pub pads_named : (c k : ℕ) (x : cells.Cell) → c < i → IsAt r.cells c x → x.kind ≡ kinds.Input k → x.word ≡ false
      → (pad : NetId) × Stands pads k pad
  pub ports : (c k : ℕ) (x : cells.Cell) (rails : Rails) (pad : NetId) → IsAt r.cells c x → x.kind ≡ kinds.Input k
      → Named named c rails → Stands pads k pad → InputBit new rails.bit pad
  pub slaves : (c : ℕ) (x : cells.Cell) (rails : Rails) → IsAt r.cells c x → x.kind ≡ kinds.Stored
      → Named named c rails
      → IsWaiting new rails
  pub inputs : (n : ℕ) → length old ≤ n → slice_get new n ≡ Some parts.Input
      → (k : ℕ) × Stands pads k (record { 0 = n })
  pub latches : (n : ℕ) (p : Phase) (source : NetId) → length old ≤ n
      → slice_get new n ≡ Some (parts.Latch p (Some source)) → (k : ℕ) × Stands pads k source
  pub unfed : (n : ℕ) (p : Phase) → length old ≤ n → slice_get new n ≡ Some (parts.Latch p None)
      → (c : ℕ) × (x : cells.Cell) × (rails : Rails) × IsAt r.cells c x × (x.kind ≡ kinds.Stored)
      × Named named c rails
      × (rails.negation.0 ≡ n)

-- the first i cells have their first nets
pub record AreFirstDone (r : Rtl) (i : ℕ) (old new : List Part) (named : List (Option Rails))
    (pads : List (Option NetId)) : Type 0 where
  pub added : (more : List Part) × (new ≡ old ++ more)
  pub within : IsWithinCost (sum_by first_cost (take i r.cells)) 0 old new
  pub names : AreFirstNamed r i old new named
  pub nets : AreFirstNets r i old new named pads
  pub agree : (v : Spot → Trit) → ObeysBehind new (length old) v → (c : ℕ) (rails : Rails) → Named named c rails
      → Agree v rails
