-- What ports and signals read of each other in a program as it is written: a name in an operand of a use stands in what
-- holds the use.
use Rattle.std.specs.Prelude.{◌≡◌, ℕ, List, Bool, true, false, slice_index_or, slice_get, Some, ◌||◌, ◌++◌}
use Rattle.std.specs.List.{list_any}
use Rattle.mp_base.specs.Table.{table}
use Rattle.mp_program.specs.Names.{is_same}
use Rattle.mp_program.specs.Reads.{kind_sets, kind_reads, process_roots}
use Rattle.mp_program.specs.declared.program.Form.{Form}
use Rattle.mp_written.specs.declared.program.Def.{Def}
use Rattle.mp_written.specs.declared.program.ExprKind.{ExprKind}
use Rattle.mp_written.specs.declared.program.ExprKind.TheVariants.{Named}
use Rattle.mp_written.specs.declared.program.Expr.{Expr}
use Rattle.mp_written.specs.declared.program.Program.{Program}
use Rattle.mp_written.specs.Kinds.{is_driven}
use Rattle.mp_written.specs.Tree.{operands}

-- the name itself
abbrev pub is_name : List ℕ → ExprKind → Bool
is_name n (Named x) = is_same x n
is_name n _ = false

-- the name n stands in the expression at an index
abbrev pub mentions : Program → List ℕ → ℕ → Bool
mentions w n e =
    slice_index_or (table false (λ (x : Expr) m. is_name n x.kind || list_any m (operands x.kind)) 0 w.exprs) e false

-- a `setq` of x stands in the form at an index
abbrev pub sets : Program → List ℕ → ℕ → Bool
sets w x f = slice_index_or (table false (λ (y : Form) s. kind_sets x y.kind s) 0 w.forms) f false

-- a `setq` of x in the form at an index reads n
abbrev pub form_reads : Program → List ℕ → List ℕ → ℕ → Bool
form_reads w x n f =
    slice_index_or (table false (λ (y : Form) r. kind_reads (mentions w n) (sets w x) x y.kind r) 0 w.forms) f false

-- the top-level forms of the program
abbrev pub roots : Program → List ℕ
roots w = w.always ++ process_roots w.processes

-- definition a reads definition b: both are driven, and a top-level form has a `setq` of a that reads b
abbrev pub Reads : Program → ℕ → ℕ → Type 0
Reads w a b = (x y : Def) × (slice_get w.defs a ≡ Some x) × (slice_get w.defs b ≡ Some y)
    × (is_driven x.what ≡ true) × (is_driven y.what ≡ true) × (list_any (form_reads w x.name y.name) (roots w) ≡ true)

-- a chain of definitions, each read by the one before it, from a to b
pub data Chain (w : Program) : ℕ → ℕ → Type 0 where
  link : {a b : ℕ} → Reads w a b → Chain w a b
  more : {a b c : ℕ} → Reads w a b → Chain w b c → Chain w a c
