-- What words cost in the slices: each unit is for a net, two inputs of gates and a column.
use Rattle.std.specs.Prelude.{ℕ, zero, suc, ◌+◌, ◌*◌, List, Bool, if◌then◌else◌, ◌&&◌, length, slice_get, take}
use Rattle.std.specs.List.{list_any, sum_by}
use Rattle.std.specs.Option.{option_map_or}
use Rattle.rtl_form.specs.declared.rtl.Cell as cells
use Rattle.rtl_form.specs.declared.rtl.CellKind.{CellKind}
use Rattle.rtl_form.specs.declared.rtl.RtlExpr.{RtlExpr}
use Rattle.rtl_form.specs.declared.rtl.Rtl.{Rtl}
use Rattle.rtl_form.specs.Cost.{expr_cost}
use Rattle.rtl_form.specs.Environment.{is_driven, is_stored}
use Rattle.task_schedule.specs.declared.task.Task.{Task}
use Rattle.task_schedule.specs.declared.task.Task.TheVariants.{Expr, Cell}
use Rattle.bit_gates.specs.Size.{entry_count}
use Rattle.bit_gates.specs.Cells.{latch_cost}
use Rattle.path_values.specs.Allocated.{transfers_to}

-- the sum of f over the numbers below n
abbrev pub total : (ℕ → ℕ) → ℕ → ℕ
total f zero = 0
total f (suc n) = total f n + f n

-- how many transfers write to a cell
abbrev pub writes : Rtl → ℕ → ℕ
writes r c = length (transfers_to r c)

-- what f gives for cell c, if that is a word
abbrev pub for_word : (CellKind → ℕ) → Rtl → ℕ → ℕ
for_word f r c = option_map_or (λ (x : cells.Cell). if x.word then f x.kind else 0) (slice_get r.cells c) 0

abbrev pub first_cost : Rtl → ℕ → ℕ
first_cost r c = for_word latch_cost r c

-- a driven word with the terms of its transfers
abbrev pub driven_cost : Rtl → ℕ → ℕ
driven_cost r c = for_word (λ kind. if is_driven kind then 2 + 4 * writes r c else 0) r c

-- the next value of a stored word, but for the cast of reset
abbrev pub next_cost : Rtl → ℕ → ℕ
next_cost r c = for_word (λ kind. if is_stored kind then 5 + 4 * writes r c else 0) r c

-- what f gives for the expression of a task, or g for its cell
abbrev pub for_task : (RtlExpr → ℕ) → (ℕ → ℕ) → Rtl → Task → ℕ
for_task f g r (Expr e) = option_map_or f (slice_get r.exprs e) 0
for_task f g r (Cell c) = g c

abbrev pub task_cost : Rtl → Task → ℕ
task_cost r task = for_task expr_cost (driven_cost r) r task

-- a word that is stored
abbrev pub is_stored_word : cells.Cell → Bool
is_stored_word x = x.word && is_stored x.kind

-- the cast of reset, which the first stored word wants
abbrev pub clear_cost : Rtl → ℕ → ℕ
clear_cost r j = if list_any is_stored_word (take j r.cells) then 1 else 0

-- what the first i cells, the first tasks and the next values of the first j cells cost
abbrev pub spent : Rtl → ℕ → List Task → ℕ → ℕ
spent r i tasks j =
    total (first_cost r) i + sum_by (task_cost r) tasks + (total (next_cost r) j + clear_cost r j)

-- ---- how many nets cross between the control and the slices

abbrev pub driven_crossings : Rtl → ℕ → ℕ
driven_crossings r c = for_word (λ kind. if is_driven kind then writes r c else 0) r c

abbrev pub next_crossings : Rtl → ℕ → ℕ
next_crossings r c = for_word (λ kind. if is_stored kind then writes r c else 0) r c

abbrev pub task_crossings : Rtl → Task → ℕ
task_crossings r task = for_task entry_count (driven_crossings r) r task

abbrev pub crossed : Rtl → List Task → ℕ → ℕ
crossed r tasks j = sum_by (task_crossings r) tasks + (total (next_crossings r) j + clear_cost r j)
