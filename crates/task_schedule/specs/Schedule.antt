-- Orders in which expressions and driven cells can be made.
use Rattle.std.specs.Prelude.{◌≡◌, ◌⊎◌, ◌<◌, ℕ, List, Some, true, Contains, length, slice_get}
use Rattle.rtl_form.specs.declared.rtl.Cell as cells
use Rattle.rtl_form.specs.declared.rtl.Transfer as transfers
use Rattle.rtl_form.specs.declared.rtl.RtlExpr.{RtlExpr}
use Rattle.rtl_form.specs.declared.rtl.RtlExpr.TheVariants as exprs
use Rattle.rtl_form.specs.declared.rtl.Rtl.{Rtl}
use Rattle.mp_base.specs.Entries.{IsAt}
use Rattle.rtl_form.specs.Environment.{is_driven}
use Rattle.task_schedule.specs.declared.task.Task.{Task}
use Rattle.task_schedule.specs.declared.task.Task.TheVariants.{Expr, Cell}

-- there is such an expression, or such a driven cell
abbrev pub IsTask : Rtl → Task → Type 0
IsTask r (Expr e) = e < length r.exprs
IsTask r (Cell c) = (x : cells.Cell) × IsAt r.cells c x × (is_driven x.kind ≡ true)

-- an expression reads its cell, or its arguments
abbrev pub ExprReads : RtlExpr → Task → Type 0
ExprReads (exprs.Cell c) (Cell d) = c ≡ d
ExprReads (exprs.Apply op index args) (Expr a) = Contains args a
ExprReads x task = ⊥

-- a driven cell reads the guards and values of the transfers to it
abbrev pub CellReads : Rtl → ℕ → Task → Type 0
CellReads r c (Expr e) =
    (t : transfers.Transfer) × Contains r.transfers t × (t.target ≡ c) × ((t.guard ≡ e) ⊎ (t.value ≡ e))
CellReads r c task = ⊥

-- one task reads another
abbrev pub TaskReads : Rtl → Task → Task → Type 0
TaskReads r (Expr e) other = (x : RtlExpr) × IsAt r.exprs e x × ExprReads x other
TaskReads r (Cell c) other = CellReads r c other

-- the expressions and the driven cells, each once, and each after all that it reads
pub record IsSchedule (r : Rtl) (tasks : List Task) : Type 0 where
  pub all : (x : Task) → IsTask r x → (t : ℕ) × (slice_get tasks t ≡ Some x)
  pub only : (t : ℕ) (x : Task) → slice_get tasks t ≡ Some x → IsTask r x
  pub once : (s t : ℕ) (x : Task) → slice_get tasks s ≡ Some x → slice_get tasks t ≡ Some x → s ≡ t
  pub after : (t : ℕ) (x y : Task) → slice_get tasks t ≡ Some x → TaskReads r x y → IsTask r y
      → (s : ℕ) × (s < t) × (slice_get tasks s ≡ Some y)
