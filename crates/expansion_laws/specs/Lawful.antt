-- Expressions in which each use names a function that may be used there, with as many operands as it has arguments.
use Rattle.std.specs.Prelude.{◌≡◌, ℕ, List, Some, length, Contains, take, slice_get, true, ⊤}
use Rattle.mp_base.specs.Apply.{takes}
use Rattle.mp_base.specs.Entries.{IsAt}
use Rattle.mp_program.specs.Fits.{is_symbol}
use Rattle.mp_written.specs.declared.program.ExprKind.{ExprKind}
use Rattle.mp_written.specs.declared.program.ExprKind.TheVariants.{Named, Apply, Use}
use Rattle.mp_written.specs.declared.program.Expr.{Expr}
use Rattle.mp_written.specs.Functions.{Function, functions, function_index}
use Rattle.mp_written.specs.declared.program.Program.{Program}
use Rattle.mp_written.specs.Tree.{operands}
use Rattle.mp_written.specs.Expansion.{tops}

-- names are symbols, operators have as many operands as they take, and a use has those of its function
abbrev pub IsLawfulKind : List Function → ExprKind → Type 0
IsLawfulKind fs (Named x) = is_symbol x ≡ true
IsLawfulKind fs (Apply op k os) = takes op (length os) ≡ true
IsLawfulKind fs (Use at x os) =
    (f : Function) × (slice_get fs (function_index fs x) ≡ Some f) × (length os ≡ length f.args)
IsLawfulKind fs _ = ⊤

-- expression e, where these functions may be used
pub data IsLawful (exprs : List Expr) (fs : List Function) : ℕ → Type 0 where
  lawful : (e : ℕ) (x : Expr) → IsAt exprs e x → IsLawfulKind fs x.kind
      → ((a : ℕ) → Contains (operands x.kind) a → IsLawful exprs fs a) → IsLawful exprs fs e

-- the body of each function, where those before it may be used
abbrev pub AreLawfulBodies : List Expr → List Function → Type 0
AreLawfulBodies exprs fs = (k : ℕ) (f : Function) → IsAt fs k f → IsLawful exprs (take k fs) f.body

-- each use in a body, guard or value names a function that may be used there, with as many operands as it has arguments
pub record IsLawfulProgram (w : Program) : Type 0 where
  pub bodies : AreLawfulBodies w.exprs (functions w)
  pub tops : (e : ℕ) → Contains (tops w) e → IsLawful w.exprs (functions w) e
