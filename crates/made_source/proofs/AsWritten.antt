-- What a program without functions is as it is written.
use Rattle.mp_program.specs.declared.program.ExprKind as plain_kind
use Rattle.mp_program.specs.declared.program.ExprKind.TheVariants as plains
use Rattle.mp_program.specs.declared.program.Expr as plain_expr
use Rattle.mp_program.specs.declared.program.What as plain_what
use Rattle.mp_program.specs.declared.program.What.TheVariants as plain_whats
use Rattle.mp_program.specs.declared.program.Def as plain_def
use Rattle.mp_written.specs.declared.program.ExprKind.{ExprKind}
use Rattle.mp_written.specs.declared.program.ExprKind.TheVariants.{Number, Named, True, False, Apply}
use Rattle.mp_written.specs.declared.program.What.{What}
use Rattle.mp_written.specs.declared.program.What.TheVariants as whats
use Rattle.mp_written.specs.declared.program.Def.{Def}
use Rattle.mp_written.specs.declared.program.Expr.{Expr}

abbrev pub written_kind : plain_kind.ExprKind → ExprKind
written_kind (plains.Number n) = Number n
written_kind (plains.Named x) = Named x
written_kind plains.True = True
written_kind plains.False = False
written_kind (plains.Apply op k os) = Apply op k os

abbrev pub written_expr : plain_expr.Expr → Expr
written_expr x = record { place = x.place; kind = written_kind x.kind }

abbrev pub written_what : plain_what.What → What
written_what plain_whats.Power = whats.Power
written_what plain_whats.Ground = whats.Ground
written_what plain_whats.Phia = whats.Phia
written_what plain_whats.Phib = whats.Phib
written_what plain_whats.Phic = whats.Phic
written_what (plain_whats.Constant c) = whats.Constant c
written_what plain_whats.Register = whats.Register
written_what plain_whats.Flag = whats.Flag
written_what (plain_whats.Port way) = whats.Port way
written_what (plain_whats.Signal way) = whats.Signal way

abbrev pub written_def : plain_def.Def → Def
written_def d = record { place = d.place; name = d.name; what = written_what d.what; pins = d.pins }
