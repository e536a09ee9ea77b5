-- What an expression becomes where each use is replaced by the body of its function, and in that body each argument by
-- its operand: the expressions that are left, in the order of a walk. Each has the kind that is written. Its operands are
-- the pieces behind it; of the indices that are written there only the number counts.
use Rattle.std.specs.Prelude.{ℕ, zero, suc, List, [], ◌∷◌, ◌++◌, Option, Some, None, map, take, slice_get, slice_index_or}
use Rattle.std.specs.Prelude.{unwrap_or, length}
use Rattle.std.specs.List.{flat_map}
use Rattle.mp_base.specs.Table.{table}
use Rattle.mp_base.specs.declared.refusal.Place.{Place}
use Rattle.mp_written.specs.declared.program.ExprKind.{ExprKind}
use Rattle.mp_written.specs.declared.program.ExprKind.TheVariants.{Number, Named, True, False, Apply, Use}
use Rattle.mp_written.specs.declared.program.Arg.{Arg}
use Rattle.mp_written.specs.declared.program.Expr.{Expr}
use Rattle.mp_written.specs.declared.program.Program.{Program}
use Rattle.mp_written.specs.Functions.{Function, functions, function_index, arg_index}

-- what a use of a function becomes, by the place of the outermost use and what each operand becomes
abbrev pub Body : Type 0
Body = Place → List (List Expr) → List Expr

-- Where an expression stands: the functions that it may use and what they become; and in a body its arguments, what
-- they are replaced by, and the place of the outermost use.
pub record Scope : Type 0 where
  pub functions : List Function
  pub bodies : List Body
  pub args : List Arg
  pub operands : List (List Expr)
  pub outermost : Option Place

-- an expression that is left: in a body it has the place of the outermost use
abbrev pub copied : Scope → Expr → List Expr
copied s x = record { place = unwrap_or s.outermost x.place; kind = x.kind } ∷ []

-- a name: that of an argument is replaced by its operand
abbrev pub name_pieces : Scope → Expr → Option ℕ → List Expr
name_pieces s x (Some i) = slice_index_or s.operands i []
name_pieces s x None = copied s x

-- the use of a function that isn't there
abbrev pub nothing : Body
nothing at operands = []

-- what an expression of this kind becomes, where v says what its operands become
abbrev pub kind_pieces : Scope → Expr → ExprKind → (ℕ → List Expr) → List Expr
kind_pieces s x (Number n) v = copied s x
kind_pieces s x (Named name) v = name_pieces s x (arg_index s.args name)
kind_pieces s x True v = copied s x
kind_pieces s x False v = copied s x
kind_pieces s x (Apply op index args) v = copied s x ++ flat_map v args
kind_pieces s x (Use at name args) v =
    slice_index_or s.bodies (function_index s.functions name) nothing (unwrap_or s.outermost x.place) (map v args)

-- what each expression becomes
abbrev pub pieces_table : Scope → List Expr → List (List Expr)
pieces_table s exprs = table [] (λ (x : Expr) v. kind_pieces s x x.kind v) 0 exprs

-- the same of the expression at an index
abbrev pub pieces_in : Scope → List Expr → ℕ → List Expr
pieces_in s exprs e = slice_index_or (pieces_table s exprs) e []

-- inside the body of f, where it uses the functions before it
abbrev pub body_scope : List Function → List Body → Function → Place → List (List Expr) → Scope
body_scope fs bodies f at operands =
    record { functions = fs; bodies = bodies; args = f.args; operands = operands; outermost = Some at }

-- what uses of a function become
abbrev pub body_of : List Expr → List Function → List Body → Option Function → Body
body_of exprs fs bodies (Some f) = λ at operands. pieces_in (body_scope fs bodies f at operands) exprs f.body
body_of exprs fs bodies None = nothing

-- what uses of the first k functions become: a body uses earlier functions alone
abbrev pub bodies : List Expr → List Function → ℕ → List Body
bodies exprs fs zero = []
bodies exprs fs (suc k) =
    bodies exprs fs k ++ body_of exprs (take k fs) (bodies exprs fs k) (slice_get fs k) ∷ []

-- outside of bodies
abbrev pub outside : List Expr → List Function → Scope
outside exprs fs = record {
  functions = fs;
  bodies = bodies exprs fs (length fs);
  args = [];
  operands = [];
  outermost = None;
}

-- what the expression at an index becomes, outside of bodies
abbrev pub pieces : Program → ℕ → List Expr
pieces w e = pieces_in (outside w.exprs (functions w)) w.exprs e
