-- What a program's type says as it is written, index by index.
use Rattle.std.specs.Prelude.{◌≡◌, ℕ, ◌<◌, ◌≤◌, List, Some, true, slice_get, length, Contains}
use Rattle.std.specs.List.{AllByRecursion}
use Rattle.mp_base.specs.Apply.{takes}
use Rattle.mp_base.specs.Entries.{IsAt}
use Rattle.mp_program.specs.Fits.{is_symbol}
use Rattle.mp_program.specs.Sound.{AllBetween, AreApart}
use Rattle.mp_written.specs.declared.program.ExprKind.{ExprKind}
use Rattle.mp_written.specs.declared.program.ExprKind.TheVariants.{Named, Apply, Use}
use Rattle.mp_written.specs.declared.program.Arg.{Arg}
use Rattle.mp_written.specs.declared.program.Expr.{Expr}
use Rattle.mp_written.specs.declared.program.Program.{Program}
use Rattle.mp_written.specs.Functions.{Function, functions}
use Rattle.mp_written.specs.Tree.{operands, expr_places}

-- operands are in range, and stand behind what they stand in
abbrev pub AreBehind : List Expr → Type 0
AreBehind exprs = (i : ℕ) (x : Expr) → slice_get exprs i ≡ Some x → AllBetween i (length exprs) (operands x.kind)

-- names are symbols, operators have as many operands as they take, and a use has one
abbrev pub FitsAsWritten : ExprKind → Type 0
FitsAsWritten (Named x) = is_symbol x ≡ true
FitsAsWritten (Apply op index args) = takes op (length args) ≡ true
FitsAsWritten (Use at x args) = (is_symbol x ≡ true) × (1 ≤ length args)
FitsAsWritten _ = Unit {0}

-- a function has a name and arguments, and its body is one of n expressions
pub record FunctionFits (n : ℕ) (f : Function) : Type 0 where
  pub name : is_symbol f.name ≡ true
  pub some : 1 ≤ length f.args
  pub args : AllByRecursion (λ (a : Arg). is_symbol a.name ≡ true) f.args
  pub body : f.body < n

-- operands, names and functions are as the type says
pub record IsSound (w : Program) : Type 0 where
  pub behind : AreBehind w.exprs
  pub exprs : (e : ℕ) (x : Expr) → IsAt w.exprs e x → FitsAsWritten x.kind
  pub defs : (k : ℕ) (f : Function) → IsAt (functions w) k f → FunctionFits (length w.exprs) f

-- each expression stands in one place at most: as an operand, as a body, or as a guard or value
abbrev pub IsApart : Program → Type 0
IsApart w = AreApart (expr_places w.defs w.exprs w.forms)

-- expression e is expression d, or stands in it
pub data Under (exprs : List Expr) : ℕ → ℕ → Type 0 where
  itself : {e : ℕ} → Under exprs e e
  deeper : {d e f : ℕ} → (y : Expr) → IsAt exprs d y → Contains (operands y.kind) e → Under exprs e f → Under exprs d f

-- expression e stands in the body of function k, which is f
abbrev pub InBody : Program → ℕ → Function → ℕ → Type 0
InBody w k f e = IsAt (functions w) k f × Under w.exprs f.body e
