-- What the parts of a program's transfers cost at most, and what pays for them.
use Rattle.std.specs.Prelude.{
  ◌≡◌,
  ◌⊎◌,
  ℕ,
  ◌+◌,
  ◌-◌,
  ◌*◌,
  ◌<◌,
  ◌≤◌,
  List,
  [],
  ◌∷◌,
  if◌then◌else◌,
  length,
  max,
  nat_lt,
  Contains,
}
use Rattle.std.specs.List.{sum_by}
use Rattle.mp_program.specs.declared.program.ExprKind.{ExprKind}
use Rattle.mp_program.specs.declared.program.ExprKind.TheVariants as source
use Rattle.mp_program.specs.declared.program.FormKind.{FormKind}
use Rattle.mp_program.specs.declared.program.FormKind.TheVariants.{Set}
use Rattle.mp_program.specs.declared.program.What.{What}
use Rattle.mp_program.specs.declared.program.What.TheVariants.{Register, Flag, Port, Signal}
use Rattle.mp_program.specs.declared.program.Way.TheVariants.{Output, Internal}
use Rattle.mp_program.specs.declared.program.Def.{Def}
use Rattle.mp_program.specs.declared.program.Expr.{Expr}
use Rattle.mp_program.specs.declared.program.Form.{Form}
use Rattle.mp_program.specs.declared.program.Process.{Process}
use Rattle.mp_program.specs.declared.program.Program.{Program}
use Rattle.mp_program.specs.Names.{is_same}
use Rattle.mp_program.specs.Weight.{names_constant, calls_in, form_weight, sets_of}
use Rattle.rtl_form.specs.Cost.{op_cost, expr_cost, cell_cost, transfer_cost}
use Rattle.rtl_form.specs.declared.rtl.Cell.{Cell}
use Rattle.rtl_form.specs.declared.rtl.Rtl.{Rtl}
use Rattle.rtl_form.specs.declared.rtl.RtlExpr.{RtlExpr}
use Rattle.rtl_form.specs.declared.rtl.Transfer.{Transfer}

-- ---- what lists cost

abbrev pub cells_cost : List Cell → ℕ
cells_cost xs = sum_by (λ (x : Cell). cell_cost x.kind) xs

abbrev pub exprs_cost : List RtlExpr → ℕ
exprs_cost xs = sum_by expr_cost xs

abbrev pub transfers_cost : List Cell → List Transfer → ℕ
transfers_cost xs ts = sum_by (transfer_cost xs) ts

-- ---- definitions, expressions and forms

-- the cell of a definition
abbrev pub def_bill : What → ℕ
def_bill Register = 7
def_bill Flag = 7
def_bill (Port way) = 2
def_bill (Signal way) = 2
def_bill _ = 0

-- a transfer to it, where it is no input
abbrev pub set_bill : What → ℕ
set_bill Register = 4
set_bill Flag = 1
set_bill (Port Output) = 4
set_bill (Port Internal) = 4
set_bill (Signal Output) = 1
set_bill (Signal Internal) = 1
set_bill _ = 0

-- a transfer to what the first definition of a name defines
abbrev pub named_bill : List Def → List ℕ → ℕ
named_bill [] x = 0
named_bill (d ∷ ds) x = if is_same d.name x then set_bill d.what else named_bill ds x

-- the transfer of a `setq`
abbrev pub form_bill : List Def → FormKind → ℕ
form_bill defs (Set x at value) = named_bill defs x
form_bill defs _ = 0

-- the guards of n branches: two ANDs of two operands for each but the last, which needs one
abbrev pub branches_bill : ℕ → ℕ
branches_bill n = 4 * n - 2

-- the copy of an expression
abbrev pub copy_bill : Program → ExprKind → ℕ
copy_bill p (source.Number n) = 1
copy_bill p (source.Named x) = if names_constant p.defs x then 1 else 0
copy_bill p source.True = 0
copy_bill p source.False = 0
copy_bill p (source.Apply op k args) = op_cost op (length args)

-- the cells of all definitions
abbrev pub defs_bill : List Def → ℕ
defs_bill defs = sum_by (λ (d : Def). def_bill d.what) defs

-- the copies of all expressions
abbrev pub copies_bill : Program → List Expr → ℕ
copies_bill p exprs = sum_by (λ (e : Expr). copy_bill p e.kind) exprs

-- the transfers of all `setq`
abbrev pub forms_bill : List Def → List Form → ℕ
forms_bill defs forms = sum_by (λ (f : Form). form_bill defs f.kind) forms

-- ---- processes

-- what is counted of a process
pub record Tally : Type 0 where
  -- its top-level forms and its depth, and the calls in its forms by the table of weights
  pub forms : ℕ
  pub depth : ℕ
  pub weighed : ℕ
  -- the places to which calls return, and the `go`, `call` and `return` forms
  pub places : ℕ
  pub goes : ℕ
  pub calls : ℕ
  pub backs : ℕ
  -- the top-level forms that have a `cond` and a move
  pub parted : ℕ

-- what holds of it
pub record IsTally (t : Tally) : Type 0 where
  pub some : 0 < t.forms
  pub few : t.places < t.forms
  pub each : t.places ≤ t.weighed
  pub all : t.calls ≤ t.weighed
  pub deep : 0 < t.calls → 0 < t.depth

-- the operator of place 0
abbrev pub first_bill : ℕ → ℕ
first_bill n = if nat_lt 1 n then max 2 (n - 1) else 0

-- the cells of its places and of its stack
abbrev pub cells_bill : Tally → ℕ
cells_bill t = 7 * (t.forms - 1) + 7 * (t.depth * t.places)

-- the operators of its place 0, its falls, its calls and its returns
abbrev pub exprs_bill : Tally → ℕ
exprs_bill t = first_bill t.forms + (t.parted + (t.goes + t.calls + t.backs)) + t.calls + t.backs

-- the transfers of its falls, of its moves, to its stack and from there
abbrev pub transfers_bill : Tally → ℕ
transfers_bill t = (t.forms - 1) + (t.goes + t.calls) + 2 * (t.depth * t.places) + t.places

abbrev pub process_bill : Tally → ℕ
process_bill t = cells_bill t + exprs_bill t + transfers_bill t

-- its moves, which weigh 2 each, and its top-level forms that have a `cond` and a move, of which the `cond` pays 1
abbrev pub moves_bill : Tally → ℕ
moves_bill t = 2 * (t.goes + t.calls + t.backs) + t.parted

-- a tally of each process
abbrev pub AreTallies : Program → List Process → List Tally → Type 0
AreTallies p [] [] = Unit {0}
AreTallies p [] (t ∷ ts) = ⊥
AreTallies p (q ∷ qs) [] = ⊥
AreTallies p (q ∷ qs) (t ∷ ts) =
    (t.forms ≡ length q.forms) × (t.depth ≡ q.depth) × (t.weighed ≡ sum_by (calls_in p) q.forms) × IsTally t
    × AreTallies p qs ts

-- ---- the whole

-- a definition that forms set
abbrev pub IsUsed : Program → Def → Type 0
IsUsed p d = (0 < set_bill d.what) × (0 < sets_of p d.name)

-- the transfers cost no more than the bill of a program's definitions, expressions, forms and processes
pub record IsBilled (p : Program) (r : Rtl) (ts : List Tally) (guards : ℕ) : Type 0 where
  pub tallies : AreTallies p p.processes ts
  pub cells : cells_cost r.cells ≤ defs_bill p.defs + sum_by cells_bill ts
  -- guards is what all branches cost, and 2 the expression that is always true
  pub exprs : exprs_cost r.exprs ≤ 2 + copies_bill p p.exprs + guards + sum_by exprs_bill ts
  pub transfers : transfers_cost r.cells r.transfers ≤ forms_bill p.defs p.forms + sum_by transfers_bill ts
  -- forms pay for guards and moves
  pub forms : guards + sum_by moves_bill ts ≤ sum_by (λ (f : Form). form_weight f.kind) p.forms
  -- a process, or a definition that is set, pays for the expression that is always true
  pub some : (0 < length p.processes) ⊎ ((d : Def) × Contains p.defs d × IsUsed p d)
