-- The values of all definitions in a clock.
use Rattle.std.specs.Prelude.{◌≡◌, ℕ, List, length, slice_index, slice_get, Some, unwrap_or}
use Rattle.std.specs.List.{flat_map}
use Rattle.mp_base.specs.Merge.{merged}
use Rattle.mp_program.specs.declared.program.What.{What}
use Rattle.mp_program.specs.declared.program.What.TheVariants.{Constant, Register, Flag, Port, Signal}
use Rattle.mp_program.specs.declared.program.Way.TheVariants.{Input, Output, Internal}
use Rattle.mp_program.specs.declared.program.Def.{Def}
use Rattle.mp_program.specs.declared.program.Program.{Program}
use Rattle.mp_program.specs.Names.{pad_number}
use Rattle.mp_program.specs.Effects.{Effect, effects_of, written}
use Rattle.mp_program.specs.State.{State, active}

-- what all active forms do in a clock
abbrev pub clock_effects : Program → State → List ℕ → List Effect
clock_effects p st env = flat_map (effects_of p env) (active p st)

-- the value of a definition, of what is stored for it, given by its pad, or driven by the forms
abbrev pub what_value : What → (stored given driven : ℕ) → ℕ
what_value (Constant c) stored given driven = c
what_value Register stored given driven = stored
what_value Flag stored given driven = stored
what_value (Port Input) stored given driven = given
what_value (Signal Input) stored given driven = given
what_value (Port Output) stored given driven = driven
what_value (Port Internal) stored given driven = driven
what_value (Signal Output) stored given driven = driven
what_value (Signal Internal) stored given driven = driven
what_value _ stored given driven = 0

-- what active forms write to the definition x, as one value, which is 0 where they write nothing
abbrev pub driven_value : Program → State → List ℕ → Def → ℕ
driven_value p st env x = unwrap_or (merged (written x.name (clock_effects p st env))) 0

-- the value of the definition x, which stands at d
abbrev pub def_value : Program → State → List ℕ → List ℕ → ℕ → Def → ℕ
def_value p st inputs env d x =
    what_value x.what (slice_index st.stored d) (slice_index inputs (pad_number p.defs d)) (driven_value p st env x)

-- the environment of a state and inputs: all of these equations hold at once
pub record IsEnvironment (p : Program) (st : State) (inputs env : List ℕ) : Type 0 where
  pub size : length env ≡ length p.defs
  pub values : (d : ℕ) (x : Def) → slice_get p.defs d ≡ Some x → slice_index env d ≡ def_value p st inputs env d x
