-- The text of waves: the states of a program and its pads, clock by clock, as a value change dump.
use Rattle.std.specs.Prelude.{ℕ, ◌+◌, ◌*◌, ◌==◌, if◌then◌else◌, List, [], ◌++◌, codes, decimal, false}
use Rattle.std.specs.Prelude.{slice_index}
use Rattle.std.specs.Fmt.{digits}
use Rattle.mp_base.specs.declared.pad.Pad.{Pad}
use Rattle.mp_base.specs.declared.pad.Pads.{Pads}
use Rattle.mp_program.specs.declared.program.Def.{Def}
use Rattle.mp_program.specs.declared.program.Process.{Process}
use Rattle.mp_program.specs.declared.program.Program.{Program}
use Rattle.mp_program.specs.Names.{is_stored}
use Rattle.mp_program.specs.declared.program.What.{What}
use Rattle.mp_program.specs.declared.program.What.TheVariants.{Register}
use Rattle.wave_text.specs.Numbered.{numbered}

-- a number behind a few letters
unfoldable pub tagged : List ℕ → ℕ → List ℕ
tagged letters n = letters ++ decimal n

-- a thing that is shown: its kind, how wide it is, its sign, which is a letter with a number, and its name
unfoldable pub shown_text : (kind : List ℕ) (width : ℕ) (letter : List ℕ) → ℕ → List ℕ → List ℕ
shown_text kind width letter k name =
    tagged kind width ++ tagged letter k ++ codes " " ++ name ++ codes " $end\n"

-- how many wires a pad has, of which a signal has one
abbrev pub wires : ℕ → ℕ
wires width = if width == 0 then 1 else width

abbrev pub input_text : ℕ → Pad → List ℕ
input_text k pad = shown_text (codes "$var wire ") (wires pad.width) (codes " i") k pad.name

abbrev pub output_text : ℕ → Pad → List ℕ
output_text k pad = shown_text (codes "$var wire ") (wires pad.width) (codes " o") k pad.name

-- a register is as wide as the program's words
abbrev pub bits : ℕ → What → ℕ
bits width Register = width
bits width _ = 1

-- a register or a flag
abbrev pub stored_text : (width : ℕ) → ℕ → Def → List ℕ
stored_text width k def =
    if is_stored def.what then shown_text (codes "$var reg ") (bits width def.what) (codes " d") k def.name else []

-- the place of a process
abbrev pub process_text : ℕ → Process → List ℕ
process_text k process = shown_text (codes "$var integer ") 32 (codes " p") k process.name

unfoldable pub name_text : Program → List ℕ
name_text p = codes "$timescale 1 us $end\n$scope module " ++ p.name ++ codes " $end\n$var wire 1 c clock $end\n"

unfoldable pub pads_text : Pads → List ℕ
pads_text pads = numbered input_text 0 pads.inputs ++ numbered output_text 0 pads.outputs

unfoldable pub kept_text : Program → List ℕ
kept_text p = numbered (stored_text p.width) 0 p.defs ++ numbered process_text 0 p.processes

-- what is shown: the pads, the registers and flags, and the places of processes
unfoldable pub head_text : Program → Pads → List ℕ
head_text p pads = name_text p ++ pads_text pads ++ kept_text p ++ codes "$upscope $end\n$enddefinitions $end\n"

-- the value of what has this sign
unfoldable pub value_text : List ℕ → ℕ → ℕ → List ℕ
value_text letter k value = codes "b" ++ digits 2 false value ++ tagged letter k ++ codes "\n"

abbrev pub stored_value : List ℕ → ℕ → Def → List ℕ
stored_value stored k def = if is_stored def.what then value_text (codes " d") k (slice_index stored k) else []

abbrev pub place_value : List ℕ → ℕ → Process → List ℕ
place_value places k process = value_text (codes " p") k (slice_index places k)

-- a clock begins: what is stored in it, and the places of the processes
unfoldable pub state_text : Program → ℕ → (stored places : List ℕ) → List ℕ
state_text p clock stored places =
    tagged (codes "#") (2 * clock) ++ codes "\n1c\n" ++ numbered (stored_value stored) 0 p.defs
    ++ numbered (place_value places) 0 p.processes

-- what the inputs are given in it, and what the outputs show
unfoldable pub values_text : ℕ → (inputs shown : List ℕ) → List ℕ
values_text clock inputs shown =
    numbered (value_text (codes " i")) 0 inputs ++ numbered (value_text (codes " o")) 0 shown
    ++ tagged (codes "#") (2 * clock + 1) ++ codes "\n0c\n"
