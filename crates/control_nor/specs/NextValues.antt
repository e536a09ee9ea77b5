-- The next values of stored bits.
use Rattle.std.specs.Prelude.{◌≡◌, ◌<◌, ◌≤◌, ◌+◌, ◌==◌, ◌&&◌, ◌||◌, ◌⊎◌, ℕ, List, [], ◌∷◌, ◌++◌, Option, Some, None}
use Rattle.std.specs.Prelude.{◌≢◌}
use Rattle.std.specs.Prelude.{Bool, true, not, nat_le, if◌then◌else◌, All, MatchBool, length, slice_get, drop}
use Rattle.std.specs.List.{list_any, sum_by}
use Rattle.mp_base.specs.declared.value.Trit.{Trit}
use Rattle.mp_base.specs.declared.value.Trit.TheVariants.{Zero, One}
use Rattle.nor_net.specs.Elements.{Spot, spot}
use Rattle.nor_net.specs.Laws.{bit}
use Rattle.nor_net.specs.Shape.{Fed}
use Rattle.nor_net.specs.declared.net.NetId.{NetId}
use Rattle.nor_net.specs.declared.net.Phase.{Phase}
use Rattle.nor_net.specs.declared.net.Phase.TheVariants as phases
use Rattle.nor_net.specs.declared.net.Part.{Part}
use Rattle.nor_net.specs.declared.net.Part.TheVariants.{Input, Gate, Latch}
use Rattle.rtl_form.specs.declared.rtl.Cell as cells
use Rattle.rtl_form.specs.declared.rtl.Transfer.{Transfer}
use Rattle.rtl_form.specs.declared.rtl.Rtl.{Rtl}
use Rattle.mp_base.specs.Entries.{IsAt}
use Rattle.rtl_form.specs.Environment.{is_stored}
use Rattle.bit_gates.specs.declared.rails.Rails.{Rails}
use Rattle.control_nor.specs.declared.names.Bits.{Bits}
use Rattle.bit_gates.specs.Cells.{IsNextMade, IsTransferNamed, transfers_to}
use Rattle.control_nor.specs.Lowering.{ObeysBehind}
use Rattle.control_nor.specs.Meaning.{is_active}
use Rattle.bit_gates.specs.Rails.{AllBelow, HasRails, Known, Named}
use Rattle.bit_gates.specs.Size.{IsWithinCost}

-- a bit that is stored
abbrev pub is_stored_bit : cells.Cell → Bool
is_stored_bit x = not x.word && is_stored x.kind

-- ---- what they cost

abbrev pub next_cost : cells.Cell → ℕ
next_cost x = if is_stored_bit x then 5 else 0

abbrev pub stored_count : Option cells.Cell → ℕ
stored_count None = 0
stored_count (Some x) = if is_stored_bit x then 1 else 0

-- 1 for a transfer to a stored bit from cell i on
abbrev pub stored_from : List cells.Cell → ℕ → Transfer → ℕ
stored_from xs i t = if nat_le i t.target then stored_count (slice_get xs t.target) else 0

-- the cost of the next values from cell i on
abbrev pub next_left : Rtl → ℕ → ℕ
next_left r i = sum_by next_cost (drop i r.cells) + sum_by (stored_from r.cells i) r.transfers

-- ---- what they mean

-- a transfer whose guard is 1
abbrev pub is_guarded : (ℕ → ℕ) → Transfer → Bool
is_guarded value t = value t.guard == 1

-- what is stored next: what is written, or what was stored where nothing is written, and 0 under reset
abbrev pub next_of : (ℕ → ℕ) → List Transfer → (stored reset : Bool) → Bool
next_of value ts stored reset =
    (list_any (is_active value) ts || (not (list_any (is_guarded value) ts) && stored)) && not reset

-- guards and values of these transfers have their bits
abbrev pub AreKnown : (Spot → Trit) → List (Option Rails) → (ℕ → ℕ) → List Transfer → Type 0
AreKnown v exprs value ts =
    All (λ (t : Transfer). Known v exprs t.guard (value t.guard) × Known v exprs t.value (value t.value)) ts

-- a stored bit with its latches, whose data are its next value
pub record IsStoring (exprs : List (Option Rails)) (ts : List Transfer) (first : ℕ) (net : List Part) (rails : Rails)
    (reset : NetId) : Type 0 where
  pub master : NetId
  pub negation : NetId
  pub source : NetId
  pub is_master : slice_get net master.0 ≡ Some (Latch phases.A (Some source))
  pub is_negation : slice_get net negation.0 ≡ Some (Gate (master ∷ []))
  pub is_slave : slice_get net rails.negation.0 ≡ Some (Latch phases.B (Some negation))
  pub means : (v : Spot → Trit) (value : ℕ → ℕ) (stored clear : Bool) → ObeysBehind net first v
      → AreKnown v exprs value ts
      → HasRails v rails stored → v (spot 0 reset) ≡ bit clear
      → v (spot 0 source) ≡ bit (next_of value ts stored clear)
  pub clears : (v : Spot → Trit) → ObeysBehind net first v → v (spot 0 reset) ≡ One → v (spot 0 source) ≡ Zero

-- ---- the first i cells have their next values

-- what was added for one cell
abbrev pub IsNextCellMade : Rtl → Bits → NetId → ℕ → cells.Cell → List Part → List Part → Type 0
IsNextCellMade r bits reset c x old new =
    MatchBool (is_stored_bit x)
    ((rails : Rails) × Named bits.cells c rails
    × IsNextMade bits.exprs (transfers_to r.transfers c) rails.negation reset old new)
    (new ≡ old)

-- the stored bits wait for their data, each with a slave of its own, and what transfers to them read has names
pub record AreWaiting (r : Rtl) (net : List Part) (bits : Bits) : Type 0 where
  pub below : AllBelow (length net) bits.exprs
  pub has : (c : ℕ) (x : cells.Cell) → IsAt r.cells c x → is_stored_bit x ≡ true
      → (rails : Rails) × Named bits.cells c rails
  pub slaves : (c : ℕ) (x : cells.Cell) (rails : Rails) → IsAt r.cells c x → is_stored_bit x ≡ true
      → Named bits.cells c rails
      → slice_get net rails.negation.0 ≡ Some (Latch phases.B None)
  pub apart : (c d : ℕ) (x y : cells.Cell) (p q : Rails) → IsAt r.cells c x → is_stored_bit x ≡ true
      → Named bits.cells c p
      → IsAt r.cells d y → is_stored_bit y ≡ true → Named bits.cells d q → p.negation.0 ≡ q.negation.0 → c ≡ d
  pub transfers : (c : ℕ) (x : cells.Cell) → IsAt r.cells c x → is_stored_bit x ≡ true
      → All (IsTransferNamed bits.exprs) (transfers_to r.transfers c)

-- the slaves stand behind the first nets
abbrev pub SlavesBehind : Rtl → Bits → ℕ → Type 0
SlavesBehind r bits first =
    (c : ℕ) (x : cells.Cell) (rails : Rails) → IsAt r.cells c x → is_stored_bit x ≡ true → Named bits.cells c rails
    → first ≤ rails.negation.0

pub record AreStored (r : Rtl) (bits : Bits) (i : ℕ) (reset : NetId) (old new : List Part) : Type 0 where
  pub longer : length old ≤ length new
  pub keeps : (n : ℕ) (p : Part) → slice_get old n ≡ Some p → Fed p → slice_get new n ≡ Some p
  pub behind : (before : List Part) → SlavesBehind r bits (length before)
      → (more : List Part) × (old ≡ before ++ more)
      → (more : List Part) × (new ≡ before ++ more)
  pub within : (cost : ℕ) × IsWithinCost cost 0 old new × (cost + next_left r i ≡ next_left r 0)
  pub waiting : (c : ℕ) (x : cells.Cell) (rails : Rails) → i ≤ c → IsAt r.cells c x → is_stored_bit x ≡ true
      → Named bits.cells c rails → slice_get new rails.negation.0 ≡ Some (Latch phases.B None)
  pub stored : (c : ℕ) (x : cells.Cell) (rails : Rails) → c < i → IsAt r.cells c x → is_stored_bit x ≡ true
      → Named bits.cells c rails → IsStoring bits.exprs (transfers_to r.transfers c) (length old) new rails reset
  pub inputs : (n : ℕ) → slice_get new n ≡ Some Input → slice_get old n ≡ Some Input
  pub latches : (n : ℕ) (p : Phase) (source : NetId) → slice_get new n ≡ Some (Latch p (Some source))
      → (slice_get old n ≡ Some (Latch p (Some source)))
      ⊎ ((inputs : List NetId) × (slice_get new source.0 ≡ Some (Gate inputs)))
  pub unfed : (n : ℕ) (p : Phase) → slice_get new n ≡ Some (Latch p None)
      → (slice_get old n ≡ Some (Latch p None))
      × ((c : ℕ) (x : cells.Cell) (rails : Rails) → c < i → IsAt r.cells c x → is_stored_bit x ≡ true
      → Named bits.cells c rails → rails.negation.0 ≢ n)

-- all stored bits have their next values, under the cell that resets them
pub record AreNextValues (r : Rtl) (bits : Bits) (old new : List Part) : Type 0 where
  pub longer : length old ≤ length new
  pub keeps : (n : ℕ) (p : Part) → slice_get old n ≡ Some p → Fed p → slice_get new n ≡ Some p
  pub behind : (before : List Part) → SlavesBehind r bits (length before)
      → (more : List Part) × (old ≡ before ++ more)
      → (more : List Part) × (new ≡ before ++ more)
  pub within : (cost : ℕ) × IsWithinCost cost 0 old new × (cost ≤ next_left r 0)
  pub stored : (c reset : ℕ) (x : cells.Cell) (rails at : Rails) → IsAt r.cells c x → is_stored_bit x ≡ true
      → Named bits.cells c rails → r.reset ≡ Some reset → Named bits.cells reset at
      → IsStoring bits.exprs (transfers_to r.transfers c) (length old) new rails at.bit
  pub inputs : (n : ℕ) → slice_get new n ≡ Some Input → slice_get old n ≡ Some Input
  pub latches : (n : ℕ) (p : Phase) (source : NetId) → slice_get new n ≡ Some (Latch p (Some source))
      → (slice_get old n ≡ Some (Latch p (Some source)))
      ⊎ ((inputs : List NetId) × (slice_get new source.0 ≡ Some (Gate inputs)))
  pub unfed : (n : ℕ) (p : Phase) → slice_get new n ≡ Some (Latch p None)
      → (slice_get old n ≡ Some (Latch p None))
      × ((c : ℕ) (x : cells.Cell) (rails : Rails) → IsAt r.cells c x → is_stored_bit x ≡ true
      → Named bits.cells c rails → rails.negation.0 ≢ n)
