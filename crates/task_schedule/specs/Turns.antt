-- After how many driven cells an expression can be made.
use Rattle.std.specs.Prelude.{◌≡◌, ◌⊎◌, ◌<◌, ◌≤◌, ◌+◌, ◌*◌, ℕ, suc, List, Some, Contains, length, slice_get}
use Rattle.std.specs.Prelude.{slice_index}
use Rattle.std.specs.List.Sorted.{IsPermutation}
use Rattle.rtl_form.specs.declared.rtl.RtlExpr.{RtlExpr}
use Rattle.rtl_form.specs.declared.rtl.RtlExpr.TheVariants as exprs
use Rattle.rtl_form.specs.declared.rtl.Rtl.{Rtl}
use Rattle.mp_base.specs.Entries.{IsAt}
use Rattle.task_schedule.specs.declared.task.Task.TheVariants.{Expr, Cell}
use Rattle.task_schedule.specs.declared.scheduling.Entry.{Entry}

-- a driven cell's place in the order, counted from 1, and 0 for other cells
pub record AreCellTurns (r : Rtl) (n : ℕ) (turns : List ℕ) : Type 0 where
  pub count : length turns ≡ length r.cells
  pub placed : (p : ℕ) → p < n → slice_index turns (slice_index r.order p) ≡ suc p
  pub only : (c : ℕ) → (slice_index turns c ≡ 0)
      ⊎ ((p : ℕ) × (p < n) × (slice_index r.order p ≡ c) × (slice_index turns c ≡ suc p))

-- the turn of an expression: that of its cell, or the greatest among its arguments, or else 0
pub record IsLatest (turns args : List ℕ) (t : ℕ) : Type 0 where
  pub bound : (a : ℕ) → Contains args a → slice_index turns a ≤ t
  pub reached : (t ≡ 0) ⊎ ((a : ℕ) × Contains args a × (slice_index turns a ≡ t))

abbrev pub IsExprTurn : List ℕ → List ℕ → RtlExpr → ℕ → Type 0
IsExprTurn cells turns (exprs.Cell c) t = t ≡ slice_index cells c
IsExprTurn cells turns (exprs.Apply op index args) t = IsLatest turns args t
IsExprTurn cells turns x t = t ≡ 0

pub record AreExprTurns (r : Rtl) (cells : List ℕ) (n : ℕ) (turns : List ℕ) : Type 0 where
  pub count : length turns ≡ n
  pub each : (e : ℕ) (x : RtlExpr) → e < n → IsAt r.exprs e x → IsExprTurn cells turns x (slice_index turns e)

-- the moments at which tasks are done: those of one turn by their indices, and then the turn's cell
abbrev pub expr_moment : Rtl → List ℕ → ℕ → ℕ
expr_moment r turns e = slice_index turns e * suc (length r.exprs) + e

abbrev pub cell_moment : Rtl → ℕ → ℕ
cell_moment r p = p * suc (length r.exprs) + length r.exprs

pub record AreEntries (r : Rtl) (turns : List ℕ) (n m : ℕ) (entries : List Entry) : Type 0 where
  pub count : length entries ≡ n + m
  pub exprs : (e : ℕ) → e < n → slice_get entries e ≡ Some (record { moment = expr_moment r turns e; task = Expr e })
  pub cells : (p : ℕ) → p < m
      → slice_get entries (n + p) ≡ Some (record { moment = cell_moment r p; task = Cell (slice_index r.order p) })

-- all tasks with their moments, in some order
abbrev pub ArePermuted : Rtl → List ℕ → List Entry → Type 0
ArePermuted r turns ys =
    (es : List Entry) × AreEntries r turns (length r.exprs) (length r.order) es × IsPermutation es ys
