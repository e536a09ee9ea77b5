-- The frame of a program as it is written: a program without functions that keeps and breaks most rules alike. A use is
-- the operator `and` on its operands, and a function is a constant of its name.
use Rattle.std.specs.Prelude.{◌≡◌, map}
use Rattle.mp_base.specs.declared.op.Op.TheVariants.{And}
use Rattle.mp_program.specs.declared.program.ExprKind as plain_kind
use Rattle.mp_program.specs.declared.program.ExprKind.TheVariants as plains
use Rattle.mp_program.specs.declared.program.Expr as plain_expr
use Rattle.mp_program.specs.declared.program.What as plain_what
use Rattle.mp_program.specs.declared.program.What.TheVariants as plain_whats
use Rattle.mp_program.specs.declared.program.Def as plain_def
use Rattle.mp_program.specs.declared.program.Program as plain
use Rattle.mp_written.specs.declared.program.ExprKind.{ExprKind}
use Rattle.mp_written.specs.declared.program.ExprKind.TheVariants.{Number, Named, True, False, Apply, Use}
use Rattle.mp_written.specs.declared.program.What.{What}
use Rattle.mp_written.specs.declared.program.What.TheVariants as whats
use Rattle.mp_written.specs.declared.program.Def.{Def}
use Rattle.mp_written.specs.declared.program.Expr.{Expr}
use Rattle.mp_written.specs.declared.program.Program.{Program}

-- an expression: a use reads what its operands read
abbrev pub frame_kind : ExprKind → plain_kind.ExprKind
frame_kind (Number n) = plains.Number n
frame_kind (Named x) = plains.Named x
frame_kind True = plains.True
frame_kind False = plains.False
frame_kind (Apply op k os) = plains.Apply op k os
frame_kind (Use at x os) = plains.Apply And 0 os

abbrev pub frame_expr : Expr → plain_expr.Expr
frame_expr x = record { place = x.place; kind = frame_kind x.kind }

-- a definition: a function has a name, and no `setq` may set it
abbrev pub frame_what : What → plain_what.What
frame_what whats.Power = plain_whats.Power
frame_what whats.Ground = plain_whats.Ground
frame_what whats.Phia = plain_whats.Phia
frame_what whats.Phib = plain_whats.Phib
frame_what whats.Phic = plain_whats.Phic
frame_what (whats.Constant c) = plain_whats.Constant c
frame_what whats.Register = plain_whats.Register
frame_what whats.Flag = plain_whats.Flag
frame_what (whats.Port way) = plain_whats.Port way
frame_what (whats.Signal way) = plain_whats.Signal way
frame_what (whats.Function args body) = plain_whats.Constant 0

abbrev pub frame_def : Def → plain_def.Def
frame_def d = record { place = d.place; name = d.name; what = frame_what d.what; pins = d.pins }

-- s is the frame of w: forms and processes are as written
pub record IsFrame (w : Program) (s : plain.Program) : Type 0 where
  pub place : s.place ≡ w.place
  pub name : s.name ≡ w.name
  pub width : s.width ≡ w.width
  pub defs : s.defs ≡ map frame_def w.defs
  pub exprs : s.exprs ≡ map frame_expr w.exprs
  pub forms : s.forms ≡ w.forms
  pub always : s.always ≡ w.always
  pub processes : s.processes ≡ w.processes
