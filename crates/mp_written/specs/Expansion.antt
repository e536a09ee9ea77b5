-- The expansion of a program: without its functions, and each use replaced by the body of its function.
use Rattle.std.specs.Prelude.{◌≡◌, ℕ, ◌==◌, List, map, filter, nat_lt, length}
use Rattle.std.specs.List.{flat_map, list_any, range_with_len}
use Rattle.mp_program.specs.declared.program.Branch.{Branch}
use Rattle.mp_program.specs.declared.program.FormKind.{FormKind}
use Rattle.mp_program.specs.declared.program.FormKind.TheVariants.{Set, Cond, Par, Go, Call, Return}
use Rattle.mp_program.specs.declared.program.Form.{Form}
use Rattle.mp_program.specs.declared.program.Program as plain
use Rattle.mp_program.specs.Tree.{exprs_in}
use Rattle.mp_written.specs.declared.program.Expr.{Expr}
use Rattle.mp_written.specs.declared.program.Program.{Program}
use Rattle.mp_written.specs.Functions.{plain_defs}
use Rattle.mp_written.specs.Pieces.{pieces}
use Rattle.mp_written.specs.Laying.{laid}

-- the guards and values of forms
abbrev pub form_exprs : List Form → List ℕ
form_exprs forms = flat_map (λ (y : Form). exprs_in y.kind) forms

-- the same in ascending order, which is that of the text
abbrev pub tops : Program → List ℕ
tops w = filter (λ e. list_any (λ v. v == e) (form_exprs w.forms)) (range_with_len 0 (length w.exprs))

-- the expressions of the expansion, in the order of a walk
abbrev pub all_pieces : Program → List Expr
all_pieces w = flat_map (pieces w) (tops w)

-- the index at which the guard or value at an index stands in the expansion
abbrev pub start : Program → ℕ → ℕ
start w v = length (flat_map (pieces w) (filter (λ e. nat_lt e v) (tops w)))

-- branches and forms whose guards and values have other indices
abbrev pub moved_branch : (ℕ → ℕ) → Branch → Branch
moved_branch go b = record { guard = go b.guard; body = b.body }

abbrev pub moved : (ℕ → ℕ) → FormKind → FormKind
moved go (Set x at v) = Set x at (go v)
moved go (Cond branches) = Cond (map (moved_branch go) branches)
moved go (Par forms) = Par forms
moved go (Go label) = Go label
moved go (Call label) = Call label
moved go Return = Return

abbrev pub moved_form : (ℕ → ℕ) → Form → Form
moved_form go y = record { place = y.place; kind = moved go y.kind }

-- p is the expansion of w: what is written but for the functions, and for the expressions, in which no use is left
pub record IsExpansion (w : Program) (p : plain.Program) : Type 0 where
  pub place : p.place ≡ w.place
  pub name : p.name ≡ w.name
  pub width : p.width ≡ w.width
  pub defs : p.defs ≡ plain_defs w
  pub exprs : p.exprs ≡ (laid 0 (all_pieces w)).exprs
  pub forms : p.forms ≡ map (moved_form (start w)) w.forms
  pub always : p.always ≡ w.always
  pub processes : p.processes ≡ w.processes
