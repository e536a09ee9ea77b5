-- Where the things of a program stand, as it is written.
use Rattle.std.specs.Prelude.{◌≡◌, ℕ, List}
use Rattle.mp_base.specs.declared.refusal.Place.{Place}
use Rattle.mp_base.specs.Entries.{IsAt}
use Rattle.mp_program.specs.declared.program.FormKind.TheVariants.{Set}
use Rattle.mp_program.specs.declared.program.Pin.{Pin}
use Rattle.mp_program.specs.declared.program.Form.{Form}
use Rattle.mp_program.specs.declared.program.Label.{Label}
use Rattle.mp_program.specs.declared.program.Process.{Process}
use Rattle.mp_written.specs.declared.program.ExprKind.TheVariants.{Use}
use Rattle.mp_written.specs.declared.program.What.TheVariants as whats
use Rattle.mp_written.specs.declared.program.Arg.{Arg}
use Rattle.mp_written.specs.declared.program.Def.{Def}
use Rattle.mp_written.specs.declared.program.Expr.{Expr}
use Rattle.mp_written.specs.declared.program.Program.{Program}

-- the place of something in the program: the last is that of a process's depth
pub data HasPlace (w : Program) : Place → Type 0 where
  program : HasPlace w w.place
  definition : (d : ℕ) (x : Def) → IsAt w.defs d x → HasPlace w x.place
  pin : (d k : ℕ) (x : Def) (y : Pin) → IsAt w.defs d x → IsAt x.pins k y → HasPlace w y.place
  argument : (d k : ℕ) (x : Def) (args : List Arg) (body : ℕ) (a : Arg) → IsAt w.defs d x
      → x.what ≡ whats.Function args body → IsAt args k a → HasPlace w a.place
  expression : (e : ℕ) (x : Expr) → IsAt w.exprs e x → HasPlace w x.place
  head : (e : ℕ) (x : Expr) (at : Place) (name os : List ℕ) → IsAt w.exprs e x → x.kind ≡ Use at name os → HasPlace w at
  form : (f : ℕ) (x : Form) → IsAt w.forms f x → HasPlace w x.place
  target : (f : ℕ) (x : Form) (name : List ℕ) (at : Place) (v : ℕ) → IsAt w.forms f x → x.kind ≡ Set name at v
      → HasPlace w at
  process : (k : ℕ) (q : Process) → IsAt w.processes k q → HasPlace w q.place
  label : (k j : ℕ) (q : Process) (x : Label) → IsAt w.processes k q → IsAt q.labels j x → HasPlace w x.place
  depth : (k : ℕ) (q : Process) → IsAt w.processes k q → HasPlace w q.depth_at
