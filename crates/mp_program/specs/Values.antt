-- The values of expressions in a clock.
use Rattle.std.specs.Prelude.{ℕ, List, map, slice_index}
use Rattle.mp_base.specs.Apply.{apply}
use Rattle.mp_base.specs.Table.{table}
use Rattle.mp_program.specs.declared.program.ExprKind.{ExprKind}
use Rattle.mp_program.specs.declared.program.ExprKind.TheVariants.{Number, Named, True, False, Apply}
use Rattle.mp_program.specs.declared.program.Expr.{Expr}
use Rattle.mp_program.specs.declared.program.Program.{Program}
use Rattle.mp_program.specs.Names.{index_of}

-- The environment of a clock is a list: a value for each definition, at its index.

-- the value of an expression of this kind, where v gives the values of its arguments
abbrev pub kind_value : Program → List ℕ → ExprKind → (ℕ → ℕ) → ℕ
kind_value p env (Number n) v = n
kind_value p env (Named x) v = slice_index env (index_of p.defs x)
kind_value p env True v = 1
kind_value p env False v = 0
kind_value p env (Apply op index args) v = apply p.width op index (map v args)

-- the values of all expressions
abbrev pub expr_values : Program → List ℕ → List ℕ
expr_values p env = table 0 (λ (x : Expr) v. kind_value p env x.kind v) 0 p.exprs

-- the value of the expression at an index
abbrev pub value_of : Program → List ℕ → ℕ → ℕ
value_of p env e = slice_index (expr_values p env) e
