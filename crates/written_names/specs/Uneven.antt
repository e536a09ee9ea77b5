-- Uses with other than as many operands as there are arguments.
use Rattle.std.specs.Prelude.{◌≡◌, ◌≢◌, ℕ, List, Option, Some, None, ◌==◌, length, slice_get, if◌then◌else◌}
use Rattle.std.specs.Option.{option_and_then}
use Rattle.mp_base.specs.declared.refusal.Place.{Place}
use Rattle.mp_base.specs.Entries.{IsAt}
use Rattle.mp_written.specs.declared.program.ExprKind.{ExprKind}
use Rattle.mp_written.specs.declared.program.ExprKind.TheVariants.{Use}
use Rattle.mp_written.specs.declared.program.Expr.{Expr}
use Rattle.mp_written.specs.declared.program.Program.{Program}
use Rattle.mp_written.specs.Functions.{Function}
use Rattle.written_rules.specs.Naming.{MayUse}
use Rattle.written_meanings.specs.declared.functions.Body.{Body}
use Rattle.written_meanings.specs.declared.meanings.Meaning.{Meaning}

-- a place, unless a body has as many arguments as there are operands
abbrev pub unless_even : Place → List ℕ → Body → Option Place
unless_even at os b = if length os == b.args then None else Some at

-- the place of a use that has not as many operands as its function has arguments
abbrev pub uneven_at : List Body → Place → ExprKind → Meaning → Option Place
uneven_at bodies at (Use head x os) m =
    option_and_then (unless_even at os) (option_and_then (slice_get bodies) m.function)
uneven_at bodies at _ m = None

-- expression e is such a use, at a place
abbrev pub IsUnevenAt : Program → ℕ → Place → Type 0
IsUnevenAt w e at = (y : Expr) × (head : Place) × (x os : List ℕ) × (j : ℕ) × (g : Function) × IsAt w.exprs e y
    × (y.kind ≡ Use head x os) × MayUse w e x j g × (length os ≢ length g.args) × (at ≡ y.place)
