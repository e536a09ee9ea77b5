-- What the names in a program's expressions mean as they are written, and in which bodies the expressions stand.
use Rattle.std.specs.Prelude.{◌≡◌, ℕ, List, [], Option, Some, None, map, length, take, slice_get, nat_lt, if◌then◌else◌}
use Rattle.mp_base.specs.Entries.{IsAt}
use Rattle.mp_written.specs.declared.program.ExprKind.{ExprKind}
use Rattle.mp_written.specs.declared.program.ExprKind.TheVariants.{Named, Use}
use Rattle.mp_written.specs.declared.program.Arg.{Arg}
use Rattle.mp_written.specs.declared.program.Expr.{Expr}
use Rattle.mp_written.specs.declared.program.Program.{Program}
use Rattle.mp_written.specs.Functions.{Function, functions, function_index, arg_index}
use Rattle.mp_written.specs.Sound.{InBody}
use Rattle.written_meanings.specs.declared.functions.Body.{Body}
use Rattle.written_meanings.specs.declared.meanings.Meaning.{Meaning}
use Rattle.written_meanings.specs.declared.meanings.Meanings.{Meanings}

-- expression e stands in the body of this function, or in none
abbrev pub IsOwner : Program → ℕ → Option ℕ → Type 0
IsOwner w e (Some k) = (f : Function) × InBody w k f e
IsOwner w e None = (k : ℕ) (f : Function) → ¬ InBody w k f e

-- the functions that may be used: in a body those before its own
abbrev pub usable : List Function → Option ℕ → List Function
usable fs (Some k) = take k fs
usable fs None = fs

-- the arguments of a function, if there is one
abbrev pub args_of : Option Function → List Arg
args_of (Some f) = f.args
args_of None = []

-- the arguments of the body around
abbrev pub args_around : List Function → Option ℕ → List Arg
args_around fs (Some k) = args_of (slice_get fs k)
args_around fs None = []

-- the number of the first function of a name, where there is one
abbrev pub function_named : List Function → List ℕ → Option ℕ
function_named fs x = if nat_lt (function_index fs x) (length fs) then Some (function_index fs x) else None

-- which of these functions the head of a use names
abbrev pub used : List Function → ExprKind → Option ℕ
used fs (Use at x os) = function_named fs x
used fs _ = None

-- which of these arguments a name is
abbrev pub argument : List Arg → ExprKind → Option ℕ
argument args (Named x) = arg_index args x
argument args _ = None

-- what expression e, which is x, means
pub record IsMeaning (w : Program) (e : ℕ) (x : Expr) (m : Meaning) : Type 0 where
  pub owner : IsOwner w e m.owner
  pub argument : m.argument ≡ argument (args_around (functions w) m.owner) x.kind
  pub function : m.function ≡ used (usable (functions w) m.owner) x.kind

-- the body of a function
abbrev pub body_of : Function → Body
body_of f = record { args = length f.args; expr = f.body }

-- the bodies of functions, and what each expression means
pub record AreMeanings (w : Program) (m : Meanings) : Type 0 where
  pub bodies : m.bodies ≡ map body_of (functions w)
  pub as_many : length m.exprs ≡ length w.exprs
  pub exprs : (e : ℕ) (x : Expr) (n : Meaning) → IsAt w.exprs e x → IsAt m.exprs e n → IsMeaning w e x n
