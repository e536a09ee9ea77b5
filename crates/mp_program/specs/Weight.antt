-- The weight of a program, which bounds the work of all that reads it.
use Rattle.std.specs.Prelude.{ℕ, ◌+◌, ◌*◌, List, [], ◌∷◌, Bool, true, false, if◌then◌else◌, length, slice_index_or}
use Rattle.std.specs.List.{sum_by, count_by}
use Rattle.mp_base.specs.declared.op.Op.{Op}
use Rattle.mp_base.specs.declared.op.Op.TheVariants.{Add, Sub, Inc, Dec, WordAnd, WordOr, WordXor, WordNot, Left, Right}
use Rattle.mp_base.specs.declared.op.Op.TheVariants.{And, Or, Nor, Nand, Xor, Not, Bit, Zero, Equal, Less}
use Rattle.mp_program.specs.declared.program.ExprKind.{ExprKind}
use Rattle.mp_program.specs.declared.program.ExprKind.TheVariants.{Number, Named, True, False, Apply}
use Rattle.mp_program.specs.declared.program.FormKind.{FormKind}
use Rattle.mp_program.specs.declared.program.FormKind.TheVariants.{Set, Cond, Par, Call}
use Rattle.mp_program.specs.declared.program.What.{What}
use Rattle.mp_program.specs.declared.program.What.TheVariants.{Constant, Register, Flag, Port, Signal}
use Rattle.mp_program.specs.declared.program.Way.TheVariants.{Input, Output, Internal}
use Rattle.mp_program.specs.declared.program.Def.{Def}
use Rattle.mp_program.specs.declared.program.Expr.{Expr}
use Rattle.mp_program.specs.declared.program.Form.{Form}
use Rattle.mp_program.specs.declared.program.Process.{Process}
use Rattle.mp_program.specs.declared.program.Program.{Program}
use Rattle.mp_base.specs.Table.{table}
use Rattle.mp_program.specs.Names.{is_same}
pub use Rattle.mp_program.specs.Tree.{inner}

-- a `setq` of x
abbrev pub is_set_of : List ℕ → FormKind → Bool
is_set_of x (Set y at v) = is_same y x
is_set_of x _ = false

-- how many `setq` of x there are
abbrev pub sets_of : Program → List ℕ → ℕ
sets_of p x = count_by (λ (f : Form). is_set_of x f.kind) p.forms

-- a definition with s `setq` of it
abbrev pub def_weight : What → ℕ → ℕ
def_weight (Port Input) s = 2
def_weight (Signal Input) s = 2
def_weight (Port Output) s = 4 + 4 * s
def_weight (Port Internal) s = 4 + 4 * s
def_weight (Signal Output) s = 3 + 3 * s
def_weight (Signal Internal) s = 3 + 3 * s
def_weight Register s = 10 + 4 * s
def_weight Flag s = 9 + 3 * s
def_weight _ s = 0

-- an operator with n operands
abbrev pub op_weight : Op → ℕ → ℕ
op_weight Add n = 12
op_weight Sub n = 14
op_weight Inc n = 8
op_weight Dec n = 8
op_weight WordAnd n = 4
op_weight WordOr n = 3
op_weight WordXor n = 6
op_weight WordNot n = 2
op_weight Left n = 3
op_weight Right n = 3
op_weight And n = 2 + n
op_weight Or n = 2 + n
op_weight Nor n = 2 + n
op_weight Nand n = 2 + n
op_weight Xor n = 6
op_weight Not n = 2
op_weight Bit n = 2
op_weight Zero n = 5
op_weight Equal n = 10
op_weight Less n = 10

abbrev pub is_constant : What → Bool
is_constant (Constant c) = true
is_constant _ = false

-- a name is that of a constant
abbrev pub names_constant : List Def → List ℕ → Bool
names_constant [] x = false
names_constant (d ∷ ds) x = if is_same d.name x then is_constant d.what else names_constant ds x

-- an expression, without its arguments
abbrev pub expr_weight : Program → ExprKind → ℕ
expr_weight p (Number n) = 1
expr_weight p (Named x) = if names_constant p.defs x then 1 else 0
expr_weight p True = 1
expr_weight p False = 1
expr_weight p (Apply op k args) = op_weight op (length args)

-- a form, without what stands in it
abbrev pub form_weight : FormKind → ℕ
form_weight (Set x at v) = 0
form_weight (Cond bs) = 1 + 4 * length bs
form_weight (Par fs) = 0
form_weight _ = 2

-- 1 for a `call`
abbrev pub is_call : FormKind → ℕ
is_call (Call l) = 1
is_call _ = 0

-- how many `call` there are in the form at an index, itself included
abbrev pub calls_in : Program → ℕ → ℕ
calls_in p f = slice_index_or (table 0 (λ (x : Form) v. is_call x.kind + sum_by v (inner x.kind)) 0 p.forms) f 0

-- a process, without what its forms weigh
abbrev pub process_weight : Program → Process → ℕ
process_weight p q = 10 + 10 * length q.forms + 10 * q.depth * sum_by (calls_in p) q.forms

-- the sum over all of the program; the word length counts nothing
abbrev pub weight : Program → ℕ
weight p =
    sum_by (λ (d : Def). def_weight d.what (sets_of p d.name)) p.defs
    + sum_by (λ (e : Expr). expr_weight p e.kind) p.exprs
    + sum_by (λ (f : Form). form_weight f.kind) p.forms
    + sum_by (process_weight p) p.processes
