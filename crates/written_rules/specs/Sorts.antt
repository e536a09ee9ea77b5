-- Words and bits in a program as it is written: what an expression is, and what is wanted where it stands.
use Rattle.std.specs.Prelude.{◌≡◌, ◌⊎◌, ℕ, zero, suc, List, [], ◌∷◌, ◌++◌, Option, Some, None, map, Contains, if◌then◌else◌}
use Rattle.std.specs.Prelude.{take, slice_get, slice_index_or, length}
use Rattle.mp_base.specs.declared.refusal.Place.{Place}
use Rattle.mp_base.specs.declared.op.Op.{Op}
use Rattle.mp_base.specs.Entries.{IsAt}
use Rattle.mp_program.specs.Names.{is_same}
use Rattle.mp_program.specs.declared.program.FormKind.TheVariants.{Set, Cond}
use Rattle.mp_program.specs.declared.program.Branch.{Branch}
use Rattle.mp_program.specs.declared.program.Form.{Form}
use Rattle.mp_rules.specs.Sorts.{Sort, IsWord, IsBit, operand_sort, result_sort}
use Rattle.mp_written.specs.declared.program.ExprKind.{ExprKind}
use Rattle.mp_written.specs.declared.program.ExprKind.TheVariants.{Number, Named, True, False, Apply, Use}
use Rattle.mp_written.specs.declared.program.What.{What}
use Rattle.mp_written.specs.declared.program.What.TheVariants.{Constant, Register, Flag, Port, Signal}
use Rattle.mp_written.specs.declared.program.Arg.{Arg}
use Rattle.mp_written.specs.declared.program.Def.{Def}
use Rattle.mp_written.specs.declared.program.Expr.{Expr}
use Rattle.mp_written.specs.declared.program.Program.{Program}
use Rattle.mp_written.specs.Functions.{Function, functions, function_index, arg_index}
use Rattle.mp_written.specs.Sound.{InBody}

-- constants, registers and ports are words, flags and signals are bits, and functions are neither
abbrev pub what_sort : What → Option Sort
what_sort (Constant c) = Some IsWord
what_sort Register = Some IsWord
what_sort (Port way) = Some IsWord
what_sort Flag = Some IsBit
what_sort (Signal way) = Some IsBit
what_sort _ = None

-- the sort of what the first definition of a name defines
abbrev pub name_sort : List Def → List ℕ → Option Sort
name_sort [] x = None
name_sort (d ∷ ds) x = if is_same d.name x then what_sort d.what else name_sort ds x

-- an argument is a word, whatever else has its name
abbrev pub named_sort : List Def → List ℕ → Option ℕ → Option Sort
named_sort defs x (Some i) = Some IsWord
named_sort defs x None = name_sort defs x

-- the sort of an expression of this kind, where these functions of these sorts may be used, and these are arguments
abbrev pub expr_sort : List Def → List Function → List (Option Sort) → List Arg → ExprKind → Option Sort
expr_sort defs fs sorts args (Number n) = Some IsWord
expr_sort defs fs sorts args (Named x) = named_sort defs x (arg_index args x)
expr_sort defs fs sorts args True = Some IsBit
expr_sort defs fs sorts args False = Some IsBit
expr_sort defs fs sorts args (Apply op k os) = Some (result_sort op)
expr_sort defs fs sorts args (Use at x os) = slice_index_or sorts (function_index fs x) None

-- the same of what stands at an index, if anything does
abbrev pub sort_at : List Def → List Function → List (Option Sort) → List Arg → Option Expr → Option Sort
sort_at defs fs sorts args (Some x) = expr_sort defs fs sorts args x.kind
sort_at defs fs sorts args None = None

-- the sort of a function's body, where these functions may be used
abbrev pub body_sort : Program → List Function → List (Option Sort) → Option Function → Option Sort
body_sort w fs sorts (Some f) = sort_at w.defs fs sorts f.args (slice_get w.exprs f.body)
body_sort w fs sorts None = None

-- the sorts of the bodies of the first k functions: in a body a use that names no earlier function has none
abbrev pub function_sorts : Program → ℕ → List (Option Sort)
function_sorts w zero = []
function_sorts w (suc k) =
    function_sorts w k ++ body_sort w (take k (functions w)) (function_sorts w k) (slice_get (functions w) k) ∷ []

-- expression e, which is y, is of this sort: in a body, or outside of all of them
abbrev pub HasSort : Program → ℕ → Expr → Sort → Type 0
HasSort w e y s =
    ((k : ℕ) × (f : Function) × InBody w k f e
    × (expr_sort w.defs (take k (functions w)) (function_sorts w k) f.args y.kind ≡ Some s))
    ⊎ (((k : ℕ) (f : Function) → ¬ InBody w k f e)
    × (expr_sort w.defs (functions w) (function_sorts w (length (functions w))) [] y.kind ≡ Some s))

-- expression e stands where this sort is wanted: as an operand, as a guard, or as the value of a `setq`
abbrev pub IsWanted : Program → ℕ → Option Sort → Type 0
IsWanted w e s =
    ((i : ℕ) × (x : Expr) × (op : Op) × (k : ℕ) × (os : List ℕ) × IsAt w.exprs i x × (x.kind ≡ Apply op k os)
    × Contains os e × (s ≡ Some (operand_sort op)))
    ⊎ ((i : ℕ) × (x : Expr) × (at : Place) × (name : List ℕ) × (os : List ℕ) × IsAt w.exprs i x
    × (x.kind ≡ Use at name os) × Contains os e × (s ≡ Some IsWord))
    ⊎ ((f : ℕ) × (y : Form) × (bs : List Branch) × IsAt w.forms f y × (y.kind ≡ Cond bs)
    × Contains (map (λ (b : Branch). b.guard) bs) e × (s ≡ Some IsBit))
    ⊎ ((f : ℕ) × (y : Form) × (x : List ℕ) × (at : Place) × IsAt w.forms f y × (y.kind ≡ Set x at e)
    × (s ≡ name_sort w.defs x))
