-- The definitions of a program: what they are, and which one a name means.
use Rattle.std.specs.Prelude.{ℕ, suc, List, [], ◌∷◌, Bool, true, false, if◌then◌else◌, codes, count_by, take, ◌&&◌}
use Rattle.std.specs.Str.{bytes_eq}
use Rattle.mp_program.specs.declared.program.Way.TheVariants.{Input, Output, Internal}
use Rattle.mp_program.specs.declared.program.What.{What}
use Rattle.mp_program.specs.declared.program.What.TheVariants.{Power, Ground, Phia, Phib, Phic, Register, Flag, Port}
use Rattle.mp_program.specs.declared.program.What.TheVariants.{Signal}
use Rattle.mp_program.specs.declared.program.Def.{Def}

-- two names are equal
abbrev pub is_same : List ℕ → List ℕ → Bool
is_same x y = bytes_eq x y

-- the index of the first definition of a name, or the number of definitions where there is none
abbrev pub index_of : List Def → List ℕ → ℕ
index_of [] x = 0
index_of (d ∷ ds) x = if is_same d.name x then 0 else suc (index_of ds x)

-- an input port or signal
abbrev pub is_input : What → Bool
is_input (Port Input) = true
is_input (Signal Input) = true
is_input _ = false

-- an output port or signal
abbrev pub is_output : What → Bool
is_output (Port Output) = true
is_output (Signal Output) = true
is_output _ = false

-- an output or internal port or signal: its value is what forms set it to in a clock
abbrev pub is_driven : What → Bool
is_driven (Port Output) = true
is_driven (Port Internal) = true
is_driven (Signal Output) = true
is_driven (Signal Internal) = true
is_driven _ = false

-- a register or flag: its value lasts to the next clock
abbrev pub is_stored : What → Bool
is_stored Register = true
is_stored Flag = true
is_stored _ = false

-- power, ground or a phase of the clock, which have no name
abbrev pub is_supply : What → Bool
is_supply Power = true
is_supply Ground = true
is_supply Phia = true
is_supply Phib = true
is_supply Phic = true
is_supply _ = false

-- the input pad of the definition at an index, where that is an input: pads count in the order of the definitions
abbrev pub pad_number : List Def → ℕ → ℕ
pad_number defs d = count_by (λ x. is_input x.what) (take d defs)

abbrev pub is_input_signal : What → Bool
is_input_signal (Signal Input) = true
is_input_signal _ = false

-- the signal input `reset`
abbrev pub is_reset : Def → Bool
is_reset x = is_same x.name (codes "reset") && is_input_signal x.what
