-- The places in a program.
use Rattle.std.specs.Prelude.{◌≡◌, ℕ, List}
use Rattle.mp_base.specs.declared.refusal.Place.{Place}
use Rattle.mp_program.specs.declared.program.FormKind.TheVariants.{Set}
use Rattle.mp_program.specs.declared.program.Pin.{Pin}
use Rattle.mp_program.specs.declared.program.Def.{Def}
use Rattle.mp_program.specs.declared.program.Expr.{Expr}
use Rattle.mp_program.specs.declared.program.Form.{Form}
use Rattle.mp_program.specs.declared.program.Label.{Label}
use Rattle.mp_program.specs.declared.program.Process.{Process}
use Rattle.mp_program.specs.declared.program.Program.{Program}
use Rattle.mp_base.specs.Entries.{IsAt}

-- the place of the program, or of something in it
pub data HasPlace (p : Program) : Place → Type 0 where
  program : HasPlace p p.place
  definition : (d : ℕ) (x : Def) → IsAt p.defs d x → HasPlace p x.place
  pin : (d k : ℕ) (x : Def) (y : Pin) → IsAt p.defs d x → IsAt x.pins k y → HasPlace p y.place
  expression : (e : ℕ) (x : Expr) → IsAt p.exprs e x → HasPlace p x.place
  form : (f : ℕ) (x : Form) → IsAt p.forms f x → HasPlace p x.place
  target : (f : ℕ) (x : Form) (name : List ℕ) (at : Place) (v : ℕ) → IsAt p.forms f x → x.kind ≡ Set name at v
      → HasPlace p at
  process : (k : ℕ) (q : Process) → IsAt p.processes k q → HasPlace p q.place
  label : (k j : ℕ) (q : Process) (x : Label) → IsAt p.processes k q → IsAt q.labels j x → HasPlace p x.place
  depth : (k : ℕ) (q : Process) → IsAt p.processes k q → HasPlace p q.depth_at
