-- Expressions of a sort that isn't wanted.
use Rattle.std.specs.Prelude.{ℕ, List, Bool, true, false, Option, Some, None, slice_get, if◌then◌else◌}
use Rattle.std.specs.Option.{option_and_then}
use Rattle.mp_base.specs.declared.refusal.Place.{Place}
use Rattle.mp_program.specs.declared.program.ExprKind.{ExprKind}
use Rattle.mp_program.specs.declared.program.ExprKind.TheVariants.{Number, Named, True, False, Apply}
use Rattle.mp_program.specs.declared.program.FormKind.{FormKind}
use Rattle.mp_program.specs.declared.program.FormKind.TheVariants.{Set, Cond}
use Rattle.mp_program.specs.declared.program.Branch.{Branch}
use Rattle.mp_program.specs.declared.program.Def.{Def}
use Rattle.mp_program.specs.declared.program.Expr.{Expr}
use Rattle.mp_program.specs.declared.program.Form.{Form}
use Rattle.mp_program.specs.declared.program.Program.{Program}
use Rattle.mp_rules.specs.Sorts.{Sort, IsWord, IsBit, what_sort, operand_sort, result_sort}
use Rattle.mp_names.specs.declared.sorts.Sort as coded
use Rattle.mp_names.specs.declared.sorts.Sort.TheVariants as codes
use Rattle.name_meanings.specs.declared.table.NameTable.{NameTable}
use Rattle.name_meanings.specs.Table.{known}
use Rattle.mp_names.specs.Finding.{earliest}
use Rattle.mp_rules.specs.Breaking.{earlier_of}

-- the sort that the code means
abbrev pub meant : coded.Sort → Sort
meant codes.Word = IsWord
meant codes.Bit = IsBit

abbrev pub is_same_sort : Sort → Sort → Bool
is_same_sort IsWord IsWord = true
is_same_sort IsBit IsBit = true
is_same_sort _ _ = false

-- the sort of a name, by a table
abbrev pub sort_in : List Def → NameTable → List ℕ → Option Sort
sort_in defs t x =
    option_and_then (λ k. option_and_then (λ (d : Def). what_sort d.what) (slice_get defs k)) (known t x).first

-- the sort of an expression, by a table
abbrev pub kind_sort : List Def → NameTable → ExprKind → Option Sort
kind_sort defs t (Number n) = Some IsWord
kind_sort defs t (Named x) = sort_in defs t x
kind_sort defs t True = Some IsBit
kind_sort defs t False = Some IsBit
kind_sort defs t (Apply op k args) = Some (result_sort op)

-- a place, where this sort isn't the one that is wanted
abbrev pub unless_same : Sort → Place → Option Sort → Option Place
unless_same s at None = None
unless_same s at (Some other) = if is_same_sort s other then None else Some at

-- the place of an expression that isn't of the sort that is wanted
abbrev pub misfit : Program → NameTable → Sort → ℕ → Option Place
misfit p t s e = option_and_then (λ (x : Expr). unless_same s x.place (kind_sort p.defs t x.kind)) (slice_get p.exprs e)

-- the earliest operand of an expression that doesn't fit
abbrev pub operand_misfit : Program → NameTable → ExprKind → Option Place
operand_misfit p t (Apply op k args) = earliest (misfit p t (operand_sort op)) args
operand_misfit p t _ = None

-- the value of a `setq` that doesn't fit
abbrev pub value_misfit : Program → NameTable → ℕ → Option Sort → Option Place
value_misfit p t v None = None
value_misfit p t v (Some s) = misfit p t s v

-- the earliest guard or value in a form that doesn't fit
abbrev pub form_misfit : Program → NameTable → FormKind → Option Place
form_misfit p t (Set x at v) = value_misfit p t v (sort_in p.defs t x)
form_misfit p t (Cond branches) = earliest (λ (b : Branch). misfit p t IsBit b.guard) branches
form_misfit p t _ = None

-- the earliest expression of a program that doesn't fit
abbrev pub earliest_misfit : Program → NameTable → Option Place
earliest_misfit p t =
    earlier_of (earliest (λ (x : Expr). operand_misfit p t x.kind) p.exprs)
    (earliest (λ (y : Form). form_misfit p t y.kind) p.forms)
