-- What a definition is, in a program as it is written.
use Rattle.std.specs.Prelude.{Bool, true, false}
use Rattle.mp_program.specs.declared.program.Way.TheVariants.{Input, Output, Internal}
use Rattle.mp_written.specs.declared.program.What.{What}
use Rattle.mp_written.specs.declared.program.What.TheVariants.{Power, Ground, Phia, Phib, Phic, Constant, Register, Flag}
use Rattle.mp_written.specs.declared.program.What.TheVariants.{Port, Signal, Function}

-- power, ground or a phase of the clock, which have no name
abbrev pub is_supply : What → Bool
is_supply Power = true
is_supply Ground = true
is_supply Phia = true
is_supply Phib = true
is_supply Phic = true
is_supply _ = false

abbrev pub is_function : What → Bool
is_function (Function args body) = true
is_function _ = false

-- an output or internal port or signal: its value is what forms set it to in a clock
abbrev pub is_driven : What → Bool
is_driven (Port Output) = true
is_driven (Port Internal) = true
is_driven (Signal Output) = true
is_driven (Signal Internal) = true
is_driven _ = false

-- a register or flag
abbrev pub is_stored : What → Bool
is_stored Register = true
is_stored Flag = true
is_stored _ = false

abbrev pub is_constant : What → Bool
is_constant (Constant c) = true
is_constant _ = false

-- an input or a constant, which nothing sets
abbrev pub is_unset : What → Bool
is_unset (Constant c) = true
is_unset (Port Input) = true
is_unset (Signal Input) = true
is_unset _ = false

abbrev pub is_input_signal : What → Bool
is_input_signal (Signal Input) = true
is_input_signal _ = false
