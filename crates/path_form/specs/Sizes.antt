-- How large a path may be for a cost.
use Rattle.std.specs.Prelude.{◌≡◌, ℕ, ◌≤◌, ◌+◌, ◌*◌, ◌==◌, ◌||◌, List, Some, None, Bool, true, false, Contains}
use Rattle.std.specs.Prelude.{if◌then◌else◌, length}
use Rattle.std.specs.List.{list_any, sum_by}
use Rattle.nor_net.specs.declared.net.NetId.{NetId}
use Rattle.nor_net.specs.declared.net.Part.{Part}
use Rattle.nor_net.specs.declared.net.Part.TheVariants.{Input, Gate, Latch}
use Rattle.nor_net.specs.Shape.{gate_inputs}
use Rattle.organelles.specs.declared.slices.Chain.{Chain}
use Rattle.path_form.specs.declared.path.Cast.{Cast}
use Rattle.path_form.specs.declared.path.Lift.{Lift}
use Rattle.path_form.specs.declared.path.DataPath.{DataPath}
use Rattle.path_form.specs.Shape.{is_input, chain_from, entries_of}

-- the multiples of the cost that bound a path
pub record IsWithin (cost : ℕ) (p : DataPath) : Type 0 where
  pub control : length p.control ≤ 2 * cost
  pub slices : length p.slices.net ≤ cost
  pub joints : length p.slices.chains + length p.casts + length p.lifts ≤ cost
  pub programs : length p.slices.programs ≤ cost
  pub control_inputs : gate_inputs p.control ≤ 4 * cost
  pub slice_inputs : gate_inputs p.slices.net ≤ 2 * cost

-- 1 for a gate or a latch
abbrev pub active : Part → ℕ
active part = if is_input (Some part) then 0 else 1

-- the part reads the net with this number
abbrev pub reads : ℕ → Part → Bool
reads n Input = false
reads n (Gate inputs) = list_any (λ (i : NetId). i.0 == n) inputs
reads n (Latch phase None) = false
reads n (Latch phase (Some source)) = source.0 == n

-- some part reads it
abbrev pub is_read : List Part → ℕ → Bool
is_read net n = list_any (reads n) net

-- The cost bounds gates and latches with casts and lifts, in the control; and in a slice, chains and programs too. And
-- no bit of an input pad lies idle: something reads it, lifts it, casts it or carries it on. So its columns are few.
pub record IsNarrow (cost : ℕ) (p : DataPath) : Type 0 where
  pub control : sum_by active p.control + (length p.casts + length p.lifts) ≤ cost
  pub slice : sum_by active p.slices.net + (length p.slices.chains + length p.slices.programs)
      + (length p.casts + length p.lifts) ≤ cost
  pub control_used : (id : NetId) → Contains (entries_of false (p.pads).inputs p.inputs) id
      → (is_read p.control id.0 || (list_any (λ (l : Lift). l.control.0 == id.0) p.lifts
      || list_any (λ (c : Cast). c.control.0 == id.0) p.casts)) ≡ true
  pub slice_used : (id : NetId) → Contains (entries_of true (p.pads).inputs p.inputs) id
      → (is_read p.slices.net id.0 || (list_any (λ (l : Lift). l.from.0 == id.0) p.lifts
      || list_any (λ (c : Chain). (chain_from c).0 == id.0) p.slices.chains)) ≡ true
