-- The entries of a program: an expression or a form for each node that stands for one, in text order.
use Rattle.std.specs.Prelude.{ℕ, List, Bool, true, false, cond, not, length, map, codes}
use Rattle.std.specs.Prelude.{drop, Option, Some, None, slice_index, slice_index_or}
use Rattle.std.specs.List.{filter, range_with_len}
use Rattle.std.specs.Str.{bytes_eq}
use Rattle.mp_base.specs.declared.op.Op.TheVariants as ops
use Rattle.form_reader.specs.declared.forms.Kind.{Kind}
use Rattle.form_reader.specs.declared.forms.Kind.TheVariants as kinds
use Rattle.form_reader.specs.declared.forms.Forms.{Forms}
use Rattle.form_reader.specs.Sound.{node, kind_at, items_of}
use Rattle.mp_shapes.specs.declared.table.Class.{Class}
use Rattle.mp_shapes.specs.declared.table.Class.TheVariants as classes
use Rattle.mp_shapes.specs.declared.table.Layout.{Layout}
use Rattle.mp_shapes.specs.declared.table.Layout.TheVariants as layouts
use Rattle.mp_shapes.specs.Layout.{word_of, is_symbol, layout}
use Rattle.mp_program.specs.declared.program.FormKind.{FormKind}
use Rattle.mp_program.specs.declared.program.FormKind.TheVariants as forms
use Rattle.mp_program.specs.declared.program.Branch.{Branch}
use Rattle.mp_program.specs.declared.program.Form.{Form}
use Rattle.mp_written.specs.declared.program.ExprKind.{ExprKind}
use Rattle.mp_written.specs.declared.program.ExprKind.TheVariants as exprs
use Rattle.mp_written.specs.declared.program.Expr.{Expr}

-- the value of a number
abbrev pub number_of : Kind → ℕ
number_of (kinds.Number v) = v
number_of _ = 0

-- the name and the number at a node
abbrev pub name_at : Forms → ℕ → List ℕ
name_at f n = word_of (kind_at f n)

abbrev pub number_at : Forms → ℕ → ℕ
number_at f n = number_of (kind_at f n)

-- a node of this class stands for an expression
abbrev pub stands_for_expr : Option Class → Bool
stands_for_expr (Some classes.Value) = true
stands_for_expr _ = false

-- a node of this class and kind stands for a form: of the elements of a process, symbols are labels
abbrev pub stands_for_form : Kind → Option Class → Bool
stands_for_form k (Some classes.Action) = true
stands_for_form k (Some classes.Element) = not (is_symbol k)
stands_for_form k _ = false

abbrev pub is_expr : List (Option Class) → ℕ → Bool
is_expr cs n = stands_for_expr (slice_index_or cs n None)

abbrev pub is_form : Forms → List (Option Class) → ℕ → Bool
is_form f cs n = stands_for_form (kind_at f n) (slice_index_or cs n None)

-- the nodes below n that pass a test, in text order
abbrev pub nodes_below : (ℕ → Bool) → ℕ → List ℕ
nodes_below test n = filter test (range_with_len 0 n)

-- for each node below n the number of such nodes before it: the index of its entry
abbrev pub ranks : (ℕ → Bool) → ℕ → List ℕ
ranks test n = map (λ m. length (nodes_below test m)) (range_with_len 0 n)

-- EXPR, where expr gives the index of the expression at a node; a list of another shape doesn't stand for one
abbrev pub list_expr : Forms → (ℕ → ℕ) → List ℕ → Option Layout → ExprKind
list_expr f expr items (Some (layouts.Apply op)) = exprs.Apply op 0 (map expr (drop 1 items))
list_expr f expr items (Some layouts.Bit) =
    exprs.Apply ops.Bit (number_at f (slice_index items 1)) (map expr (drop 2 items))
list_expr f expr items (Some layouts.Use) =
    let head = slice_index items 0 in exprs.Use (node f head).place (name_at f head) (map expr (drop 1 items))
list_expr f expr items _ = exprs.Number 0

abbrev pub symbol_expr : List ℕ → ExprKind
symbol_expr x = cond (bytes_eq x (codes "t")) exprs.True (cond (bytes_eq x (codes "f")) exprs.False (exprs.Named x))

abbrev pub expr_kind : Forms → (ℕ → ℕ) → Kind → ExprKind
expr_kind f expr (kinds.Number v) = exprs.Number v
expr_kind f expr (kinds.Symbol x) = symbol_expr x
expr_kind f expr (kinds.Group items) = list_expr f expr items (layout f classes.Value (kinds.Group items))

abbrev pub expr_at : Forms → (ℕ → ℕ) → ℕ → Expr
expr_at f expr n = record { place = (node f n).place; kind = expr_kind f expr (kind_at f n) }

-- BRANCH, where form gives the index of the form at a node
abbrev pub branch_at : Forms → (ℕ → ℕ) → (ℕ → ℕ) → ℕ → Branch
branch_at f expr form n = let items = items_of (kind_at f n) in
    record { guard = expr (slice_index items 0); body = map form (drop 1 items) }

-- FORM
abbrev pub form_kind : Forms → (ℕ → ℕ) → (ℕ → ℕ) → List ℕ → Option Layout → FormKind
form_kind f expr form items (Some layouts.Setq) =
    forms.Set (name_at f (slice_index items 1)) (node f (slice_index items 1)).place (expr (slice_index items 2))
form_kind f expr form items (Some layouts.Cond) = forms.Cond (map (branch_at f expr form) (drop 1 items))
form_kind f expr form items (Some layouts.Par) = forms.Par (map form (drop 1 items))
form_kind f expr form items (Some layouts.Go) = forms.Go (name_at f (slice_index items 1))
form_kind f expr form items (Some layouts.Call) = forms.Call (name_at f (slice_index items 1))
form_kind f expr form items _ = forms.Return

abbrev pub form_at : Forms → (ℕ → ℕ) → (ℕ → ℕ) → ℕ → Form
form_at f expr form n =
    record {
      place = (node f n).place;
      kind = form_kind f expr form (items_of (kind_at f n)) (layout f classes.Action (kind_at f n));
    }

-- the index of the expression and of the form at a node
abbrev pub expr_index : Forms → List (Option Class) → ℕ → ℕ
expr_index f cs = slice_index (ranks (is_expr cs) (length f.nodes))

abbrev pub form_index : Forms → List (Option Class) → ℕ → ℕ
form_index f cs = slice_index (ranks (is_form f cs) (length f.nodes))
