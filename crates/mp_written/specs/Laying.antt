-- Expressions in the order of a walk, laid out with the indices of their operands: those of an operator are the first
-- that stand behind it and in no other.
use Rattle.std.specs.Prelude.{ℕ, ◌+◌, List, [], ◌∷◌, take, drop, length}
use Rattle.mp_program.specs.declared.program.ExprKind as plain_kind
use Rattle.mp_program.specs.declared.program.ExprKind.TheVariants as plains
use Rattle.mp_program.specs.declared.program.Expr as plain
use Rattle.mp_written.specs.declared.program.ExprKind.{ExprKind}
use Rattle.mp_written.specs.declared.program.ExprKind.TheVariants.{Number, Named, True, False, Apply, Use}
use Rattle.mp_written.specs.declared.program.Expr.{Expr}

-- expressions, and the indices of those that stand in no other
pub record Laid : Type 0 where
  pub exprs : List plain.Expr
  pub tops : List ℕ

-- how many operands an expression of this kind takes from those behind it
abbrev pub arity : ExprKind → ℕ
arity (Apply op index args) = length args
arity _ = 0

-- an expression of this kind, where these stand behind it and in no other
abbrev pub laid_kind : ExprKind → List ℕ → plain_kind.ExprKind
laid_kind (Number n) tops = plains.Number n
laid_kind (Named name) tops = plains.Named name
laid_kind True tops = plains.True
laid_kind False tops = plains.False
laid_kind (Apply op index args) tops = plains.Apply op index (take (length args) tops)
laid_kind (Use at name args) tops = plains.Number 0

-- an expression before those that are laid out
abbrev pub laid_before : ℕ → Expr → Laid → Laid
laid_before at x rest = record {
  exprs = record { place = x.place; kind = laid_kind x.kind rest.tops } ∷ rest.exprs;
  tops = at ∷ drop (arity x.kind) rest.tops;
}

-- expressions laid out from the index `at` on
abbrev pub laid : ℕ → List Expr → Laid
laid at [] = record { exprs = []; tops = [] }
laid at (x ∷ xs) = laid_before at x (laid (at + 1) xs)
