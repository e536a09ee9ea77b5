-- Expressions of a sort that isn't wanted, in a program as it is written.
use Rattle.std.specs.Prelude.{◌≡◌, ◌↔◌, ℕ, List, Option, Some, None, is_some, length, slice_get, slice_index_or}
use Rattle.std.specs.Prelude.{if◌then◌else◌}
use Rattle.std.specs.Option.{option_map, option_and_then}
use Rattle.mp_base.specs.declared.refusal.Place.{Place}
use Rattle.mp_base.specs.Entries.{IsAt}
use Rattle.mp_program.specs.declared.program.FormKind.{FormKind}
use Rattle.mp_program.specs.declared.program.FormKind.TheVariants.{Set, Cond}
use Rattle.mp_program.specs.declared.program.Branch.{Branch}
use Rattle.mp_program.specs.declared.program.Form.{Form}
use Rattle.mp_rules.specs.Breaking.{earlier_of}
use Rattle.mp_rules.specs.Sorts.{Sort, IsWord, IsBit, operand_sort, result_sort}
use Rattle.written_names.specs.declared.sorts.Sort as coded
use Rattle.written_names.specs.declared.sorts.Sort.TheVariants as codes
use Rattle.mp_names.specs.Finding.{earliest}
use Rattle.mp_names.specs.Sorting.{unless_same}
use Rattle.mp_written.specs.declared.program.ExprKind.{ExprKind}
use Rattle.mp_written.specs.declared.program.ExprKind.TheVariants.{Number, Named, True, False, Apply, Use}
use Rattle.mp_written.specs.declared.program.Def.{Def}
use Rattle.mp_written.specs.declared.program.Expr.{Expr}
use Rattle.mp_written.specs.declared.program.Program.{Program}
use Rattle.written_rules.specs.Sorts.{what_sort, HasSort}
use Rattle.written_meanings.specs.declared.meanings.Meaning.{Meaning}
use Rattle.name_meanings.specs.declared.table.NameTable.{NameTable}
use Rattle.written_names.specs.Table.{definition}

-- the sort that the code means
abbrev pub meant : coded.Sort → Sort
meant codes.Word = IsWord
meant codes.Bit = IsBit

-- the sort of a name that is no argument, by a table
abbrev pub sort_in : List Def → NameTable → List ℕ → Option Sort
sort_in defs t x = option_and_then (λ (d : Def). what_sort d.what) (definition defs t x)

-- the sort at an index
abbrev pub sort_at : List (Option coded.Sort) → ℕ → Option Sort
sort_at sorts k = option_map meant (slice_index_or sorts k None)

-- the sort of an expression of a kind and a meaning, where these are the sorts of functions
abbrev pub kind_sort : List Def → NameTable → List (Option coded.Sort) → ExprKind → Meaning → Option Sort
kind_sort defs t functions (Number n) m = Some IsWord
kind_sort defs t functions (Named x) m = if is_some m.argument then Some IsWord else sort_in defs t x
kind_sort defs t functions True m = Some IsBit
kind_sort defs t functions False m = Some IsBit
kind_sort defs t functions (Apply op k os) m = Some (result_sort op)
kind_sort defs t functions (Use at x os) m = option_and_then (sort_at functions) m.function

-- the sorts of all expressions
pub record AreSorts (w : Program) (sorts : List (Option coded.Sort)) : Type 0 where
  pub as_many : length sorts ≡ length w.exprs
  pub each : (e : ℕ) (x : Expr) (s : Sort) → IsAt w.exprs e x → (sort_at sorts e ≡ Some s) ↔ HasSort w e x s

-- the place of an expression that isn't of the sort that is wanted
abbrev pub misfit : List Expr → List (Option coded.Sort) → Sort → ℕ → Option Place
misfit exprs sorts s e = option_and_then (λ (x : Expr). unless_same s x.place (sort_at sorts e)) (slice_get exprs e)

-- the earliest operand of an expression that doesn't fit
abbrev pub operand_misfit : List Expr → List (Option coded.Sort) → ExprKind → Option Place
operand_misfit exprs sorts (Apply op k os) = earliest (misfit exprs sorts (operand_sort op)) os
operand_misfit exprs sorts (Use at x os) = earliest (misfit exprs sorts IsWord) os
operand_misfit exprs sorts _ = None

-- the value of a `setq` that doesn't fit
abbrev pub value_misfit : List Expr → List (Option coded.Sort) → ℕ → Option Sort → Option Place
value_misfit exprs sorts v None = None
value_misfit exprs sorts v (Some s) = misfit exprs sorts s v

-- the earliest guard or value in a form that doesn't fit
abbrev pub form_misfit : Program → NameTable → List (Option coded.Sort) → FormKind → Option Place
form_misfit w t sorts (Set x at v) = value_misfit w.exprs sorts v (sort_in w.defs t x)
form_misfit w t sorts (Cond branches) = earliest (λ (b : Branch). misfit w.exprs sorts IsBit b.guard) branches
form_misfit w t sorts _ = None

-- the earliest expression of a program that doesn't fit
abbrev pub earliest_misfit : Program → NameTable → List (Option coded.Sort) → Option Place
earliest_misfit w t sorts =
    earlier_of (earliest (λ (x : Expr). operand_misfit w.exprs sorts x.kind) w.exprs)
    (earliest (λ (y : Form). form_misfit w t sorts y.kind) w.forms)
