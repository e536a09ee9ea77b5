-- What is added for a task, and how far the tasks are done.
use Rattle.std.specs.Prelude.{◌≡◌, ◌+◌, ℕ, List, Option, Some, None, false, All, MatchBool, length, slice_get}
use Rattle.std.specs.Prelude.{slice_set}
use Rattle.nor_net.specs.declared.net.Part.{Part}
use Rattle.rtl_form.specs.declared.rtl.Cell as cells
use Rattle.rtl_form.specs.declared.rtl.RtlExpr.{RtlExpr}
use Rattle.rtl_form.specs.declared.rtl.Rtl.{Rtl}
use Rattle.mp_base.specs.Entries.{IsAt}
use Rattle.task_schedule.specs.declared.task.Task.{Task}
use Rattle.task_schedule.specs.declared.task.Task.TheVariants.{Expr, Cell}
use Rattle.bit_gates.specs.declared.rails.Rails.{Rails}
use Rattle.control_nor.specs.declared.names.Bits.{Bits}
use Rattle.bit_gates.specs.Adding.{HasRoom}
use Rattle.bit_gates.specs.Cells.{IsDrivenMade, IsTransferNamed, transfers_to}
use Rattle.bit_gates.specs.Exprs.{IsExprMade, IsExprReady}
use Rattle.bit_gates.specs.Size.{bit_expr_cost}

-- what stands for the expression or the cell of a task, so far
abbrev pub entry_of : Bits → Task → Option (Option Rails)
entry_of bits (Expr e) = slice_get bits.exprs e
entry_of bits (Cell c) = slice_get bits.cells c

abbrev pub with_entry : Bits → Task → Option Rails → Bits
with_entry bits (Expr e) o = record bits { exprs = slice_set bits.exprs e o }
with_entry bits (Cell c) o = record bits { cells = slice_set bits.cells c o }

-- a driven cell has no nets here where it is a word
abbrev pub IsCellMade : Rtl → List (Option Rails) → ℕ → cells.Cell → List Part → List Part → Option Rails → Type 0
IsCellMade r exprs c x old new o =
    MatchBool x.word ((o ≡ None) × (new ≡ old))
    ((rails : Rails) × (o ≡ Some rails) × IsDrivenMade exprs (transfers_to r.transfers c) old new rails)

-- what was added for a task
abbrev pub IsTaskMade : Rtl → Bits → Task → List Part → List Part → Option Rails → Type 0
IsTaskMade r bits (Expr e) old new o =
    (x : RtlExpr) × IsAt r.exprs e x × IsExprMade bits.cells bits.exprs x old new o
IsTaskMade r bits (Cell c) old new o =
    (x : cells.Cell) × IsAt r.cells c x × IsCellMade r bits.exprs c x old new o

-- a task was done
pub record IsTaskDone (r : Rtl) (task : Task) (old new : List Part) (before after : Bits) : Type 0 where
  pub entry : Option Rails
  pub is_made : IsTaskMade r before task old new entry
  pub is_after : after ≡ with_entry before task entry

-- what a task reads has names, and there is room for it
abbrev pub IsTaskReady : Rtl → Bits → Task → List Part → Type 0
IsTaskReady r bits (Expr e) parts =
    (x : RtlExpr) × IsAt r.exprs e x × IsExprReady bits.cells bits.exprs x × HasRoom (bit_expr_cost x) parts
IsTaskReady r bits (Cell c) parts =
    (x : cells.Cell) × IsAt r.cells c x
    × (x.word ≡ false → All (IsTransferNamed bits.exprs) (transfers_to r.transfers c)
    × HasRoom (2 + length (transfers_to r.transfers c)) parts)
