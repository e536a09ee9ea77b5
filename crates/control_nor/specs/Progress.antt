-- How far the tasks are done.
use Rattle.std.specs.Prelude.{◌≡◌, ◌<◌, ◌≤◌, ◌+◌, ℕ, zero, suc, List, [], ◌∷◌, Option, Some, None, false, ◌&&◌, not}
use Rattle.std.specs.Prelude.{if◌then◌else◌, length, slice_get, slice_index}
use Rattle.std.specs.List.{sum_by}
use Rattle.nor_net.specs.declared.net.NetId.{NetId}
use Rattle.nor_net.specs.declared.net.Part.{Part}
use Rattle.nor_net.specs.declared.net.Part.TheVariants.{Input, Gate}
use Rattle.rtl_form.specs.declared.rtl.Cell as cells
use Rattle.rtl_form.specs.declared.rtl.Transfer.{Transfer}
use Rattle.rtl_form.specs.declared.rtl.RtlExpr.{RtlExpr}
use Rattle.rtl_form.specs.declared.rtl.Rtl.{Rtl}
use Rattle.mp_base.specs.Entries.{IsAt}
use Rattle.rtl_form.specs.Environment.{is_driven}
use Rattle.rtl_form.specs.Sound.{HasSort}
use Rattle.task_schedule.specs.declared.task.Task.{Task}
use Rattle.task_schedule.specs.declared.task.Task.TheVariants.{Expr, Cell}
use Rattle.bit_gates.specs.declared.rails.Rails.{Rails}
use Rattle.control_nor.specs.declared.names.Bits.{Bits}
use Rattle.bit_gates.specs.Adding.{AddsLogic}
use Rattle.control_nor.specs.Lowering.{IsEntry}
use Rattle.bit_gates.specs.Rails.{AreBelow, IsNamed, Named}
use Rattle.task_schedule.specs.Schedule.{IsTask}
use Rattle.bit_gates.specs.Size.{IsWithinCost, bit_expr_cost, entry_count}
use Rattle.control_nor.specs.Tasks.{entry_of}

-- the expression or cell of a task is a bit
abbrev pub IsBitTask : Rtl → Task → Type 0
IsBitTask r (Expr e) = HasSort r e false
IsBitTask r (Cell c) = (x : cells.Cell) × IsAt r.cells c x × (x.word ≡ false)

-- it has these nets
abbrev pub NamedTask : Bits → Task → Rails → Type 0
NamedTask bits task rails = entry_of bits task ≡ Some (Some rails)

-- before the first task, the bits that are inputs or stored have nets, and no others
pub record IsBegun (r : Rtl) (parts : List Part) (bits : Bits) : Type 0 where
  pub cell_count : length bits.cells ≡ length r.cells
  pub expr_count : length bits.exprs ≡ length r.exprs
  pub below : (task : Task) (rails : Rails) → NamedTask bits task rails → AreBelow (length parts) rails
  pub bits_only : (task : Task) (rails : Rails) → NamedTask bits task rails → IsBitTask r task
  pub first : (c : ℕ) (x : cells.Cell) → IsAt r.cells c x → x.word ≡ false → is_driven x.kind ≡ false
      → IsNamed bits.cells c
  pub waiting : (task : Task) → IsTask r task → entry_of bits task ≡ Some None

-- ---- the cost of what has no nets yet

-- the sum of f over those that have none
abbrev pub left_by : {X : Type 0} → (X → ℕ) → List (Option Rails) → List X → ℕ
left_by f [] xs = 0
left_by f (o ∷ os) [] = 0
left_by f (None ∷ os) (x ∷ xs) = f x + left_by f os xs
left_by f (Some rails ∷ os) (x ∷ xs) = left_by f os xs

-- 1 for a driven bit, which has two gates besides its terms
abbrev pub driven_count : cells.Cell → ℕ
driven_count x = if is_driven x.kind && not x.word then 1 else 0

abbrev pub driven_cost : cells.Cell → ℕ
driven_cost x = driven_count x + driven_count x

-- 1 for a transfer to a driven bit that has no nets yet
abbrev pub wait_of : Option (Option Rails) → Option cells.Cell → ℕ
wait_of (Some None) (Some x) = driven_count x
wait_of o p = 0

abbrev pub waits : List cells.Cell → List (Option Rails) → Transfer → ℕ
waits xs cells t = wait_of (slice_get cells t.target) (slice_get xs t.target)

abbrev pub cost_left : Rtl → Bits → ℕ
cost_left r bits =
    left_by bit_expr_cost bits.exprs r.exprs + left_by driven_cost bits.cells r.cells
    + sum_by (waits r.cells bits.cells) r.transfers

abbrev pub entries_left : Rtl → Bits → ℕ
entries_left r bits = left_by entry_count bits.exprs r.exprs

-- what was spent so far, and what is left, are the whole
pub record IsSpent (r : Rtl) (old new : List Part) (before after : Bits) : Type 0 where
  pub cost : ℕ
  pub entries : ℕ
  pub within : IsWithinCost cost entries old new
  pub cost_is : cost + cost_left r after ≡ cost_left r before
  pub entries_is : entries + entries_left r after ≡ entries_left r before

-- ---- the first t tasks are done

pub record IsProgress (r : Rtl) (tasks : List Task) (t : ℕ) (old new : List Part) (before after : Bits) : Type 0 where
  pub adds : AddsLogic old new
  pub cell_count : length after.cells ≡ length r.cells
  pub expr_count : length after.exprs ≡ length r.exprs
  pub keeps : (task : Task) (rails : Rails) → NamedTask before task rails → NamedTask after task rails
  pub below : (task : Task) (rails : Rails) → NamedTask after task rails → AreBelow (length new) rails
  pub bits_only : (task : Task) (rails : Rails) → NamedTask after task rails → IsBitTask r task
  pub done : (s : ℕ) (task : Task) → s < t → slice_get tasks s ≡ Some task → IsBitTask r task
      → (rails : Rails) × NamedTask after task rails
  pub left : (s : ℕ) (task : Task) → t ≤ s → slice_get tasks s ≡ Some task → entry_of after task ≡ Some None
  pub spent : IsSpent r old new before after

-- how many nets stand before task s, where the first task begins with `start` nets
abbrev pub level : ℕ → List ℕ → ℕ → ℕ
level start ends zero = start
level start ends (suc s) = slice_index ends s

-- where the nets of the first t tasks are, and which are inputs
pub record IsLaid (r : Rtl) (tasks : List Task) (t : ℕ) (old new : List Part) (after : Bits)
    (ends : List ℕ) : Type 0 where
  pub count : length ends ≡ t
  pub top : level (length old) ends t ≡ length new
  pub rise : (s : ℕ) → s < t → level (length old) ends s ≤ level (length old) ends (suc s)
  pub below : (s : ℕ) (task : Task) (rails : Rails) → s < t → slice_get tasks s ≡ Some task
      → NamedTask after task rails
      → rails.bit.0 < level (length old) ends (suc s)
  pub driven : (s c : ℕ) (rails : Rails) → s < t → slice_get tasks s ≡ Some (Cell c) → Named after.cells c rails
      → (level (length old) ends s ≤ rails.bit.0) × (slice_get new rails.bit.0 ≡ Some (Gate (rails.negation ∷ [])))
      × ((inputs : List NetId) × (slice_get new rails.negation.0 ≡ Some (Gate inputs)))
  pub entries : (s e : ℕ) (x : RtlExpr) (rails : Rails) → s < t → slice_get tasks s ≡ Some (Expr e) → IsAt r.exprs e x
      → IsEntry x → Named after.exprs e rails
      → (level (length old) ends s ≤ rails.bit.0) × (slice_get new rails.bit.0 ≡ Some Input)
  pub inputs : (n : ℕ) → length old ≤ n → slice_get new n ≡ Some Input
      → (e : ℕ) × (x : RtlExpr) × (rails : Rails) × IsAt r.exprs e x × IsEntry x × Named after.exprs e rails
      × (rails.bit.0 ≡ n)
