-- The functions of a program as it is written, and its other definitions.
use Rattle.std.specs.Prelude.{ℕ, suc, List, [], ◌∷◌, Option, Some, None, if◌then◌else◌}
use Rattle.std.specs.List.{filter_map}
use Rattle.std.specs.Option.{option_map}
use Rattle.mp_base.specs.declared.refusal.Place.{Place}
use Rattle.mp_program.specs.Names.{is_same}
use Rattle.mp_program.specs.declared.program.Def as plain
use Rattle.mp_program.specs.declared.program.What.TheVariants as plain_whats
use Rattle.mp_program.specs.declared.program.What as plain_what
use Rattle.mp_written.specs.declared.program.What.{What}
use Rattle.mp_written.specs.declared.program.What.TheVariants as whats
use Rattle.mp_written.specs.declared.program.Arg.{Arg}
use Rattle.mp_written.specs.declared.program.Def.{Def}
use Rattle.mp_written.specs.declared.program.Program.{Program}

-- a definition that is a function: its body is the expression at an index
pub record Function : Type 0 where
  pub place : Place
  pub name : List ℕ
  pub args : List Arg
  pub body : ℕ

abbrev pub function_of : Def → What → Option Function
function_of d (whats.Function args body) =
    Some (record { place = d.place; name = d.name; args = args; body = body })
function_of d _ = None

-- the functions, in the order of their definitions
abbrev pub functions : Program → List Function
functions w = filter_map (λ (d : Def). function_of d d.what) w.defs

-- what a definition of another kind is
abbrev pub plain_what_of : What → Option plain_what.What
plain_what_of whats.Power = Some plain_whats.Power
plain_what_of whats.Ground = Some plain_whats.Ground
plain_what_of whats.Phia = Some plain_whats.Phia
plain_what_of whats.Phib = Some plain_whats.Phib
plain_what_of whats.Phic = Some plain_whats.Phic
plain_what_of (whats.Constant c) = Some (plain_whats.Constant c)
plain_what_of whats.Register = Some plain_whats.Register
plain_what_of whats.Flag = Some plain_whats.Flag
plain_what_of (whats.Port way) = Some (plain_whats.Port way)
plain_what_of (whats.Signal way) = Some (plain_whats.Signal way)
plain_what_of (whats.Function args body) = None

abbrev pub plain_def : Def → Option plain_what.What → Option plain.Def
plain_def d (Some what) = Some (record { place = d.place; name = d.name; what = what; pins = d.pins })
plain_def d None = None

-- the definitions but for functions
abbrev pub plain_defs : Program → List plain.Def
plain_defs w = filter_map (λ (d : Def). plain_def d (plain_what_of d.what)) w.defs

-- the index of the first function of a name, or the number of functions where there is none
abbrev pub function_index : List Function → List ℕ → ℕ
function_index [] x = 0
function_index (f ∷ fs) x = if is_same f.name x then 0 else suc (function_index fs x)

-- the index of the first argument of a name, where there is one
abbrev pub arg_index : List Arg → List ℕ → Option ℕ
arg_index [] x = None
arg_index (a ∷ rest) x = if is_same a.name x then Some 0 else option_map suc (arg_index rest x)
