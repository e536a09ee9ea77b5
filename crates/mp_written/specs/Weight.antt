-- The weight of a program's expansion, counted by the table for programs without functions.
use Rattle.std.specs.Prelude.{ℕ, ◌+◌, ◌*◌, List, length, slice_index_or, if◌then◌else◌}
use Rattle.std.specs.List.{sum_by, count_by}
use Rattle.mp_base.specs.Table.{table}
use Rattle.mp_program.specs.Weight.{is_set_of, def_weight, op_weight, names_constant, form_weight, is_call, inner}
use Rattle.mp_program.specs.declared.program.Form.{Form}
use Rattle.mp_program.specs.declared.program.Process.{Process}
use Rattle.mp_program.specs.declared.program.Def as plain
use Rattle.mp_written.specs.declared.program.ExprKind.{ExprKind}
use Rattle.mp_written.specs.declared.program.ExprKind.TheVariants.{Number, Named, True, False, Apply, Use}
use Rattle.mp_written.specs.declared.program.Expr.{Expr}
use Rattle.mp_written.specs.declared.program.Program.{Program}
use Rattle.mp_written.specs.Functions.{plain_defs}
use Rattle.mp_written.specs.Expansion.{all_pieces}

-- an expression that is left, without its operands; a use never is
abbrev pub piece_weight : Program → ExprKind → ℕ
piece_weight w (Number n) = 1
piece_weight w (Named x) = if names_constant (plain_defs w) x then 1 else 0
piece_weight w True = 1
piece_weight w False = 1
piece_weight w (Apply op k args) = op_weight op (length args)
piece_weight w (Use at name args) = 0

-- how many `setq` of x there are
abbrev pub sets_of : Program → List ℕ → ℕ
sets_of w x = count_by (λ (f : Form). is_set_of x f.kind) w.forms

-- how many `call` there are in the form at an index, itself included
abbrev pub calls_in : Program → ℕ → ℕ
calls_in w f = slice_index_or (table 0 (λ (x : Form) v. is_call x.kind + sum_by v (inner x.kind)) 0 w.forms) f 0

-- a process, without what its forms weigh
abbrev pub process_weight : Program → Process → ℕ
process_weight w q = 10 + 10 * length q.forms + 10 * q.depth * sum_by (calls_in w) q.forms

-- definitions, forms and processes, which weigh in the expansion what they weigh as written
abbrev pub frame_weight : Program → ℕ
frame_weight w =
    sum_by (λ (d : plain.Def). def_weight d.what (sets_of w d.name)) (plain_defs w)
    + sum_by (λ (f : Form). form_weight f.kind) w.forms
    + sum_by (process_weight w) w.processes

-- the sum over all of the expansion
abbrev pub weight : Program → ℕ
weight w = frame_weight w + sum_by (λ (x : Expr). piece_weight w x.kind) (all_pieces w)
