-- The pads of a program, and the values that fit them.
use Rattle.std.specs.Prelude.{◌≡◌, ◌<◌, ℕ, ◌^◌, ◌==◌, if◌then◌else◌, List, Bool, length, map, filter, slice_index}
use Rattle.mp_base.specs.declared.pad.Pad.{Pad}
use Rattle.mp_base.specs.declared.pad.Pads.{Pads}
use Rattle.mp_program.specs.declared.program.What.{What}
use Rattle.mp_program.specs.declared.program.What.TheVariants.{Port}
use Rattle.mp_program.specs.declared.program.Def.{Def}
use Rattle.mp_program.specs.declared.program.Program.{Program}
use Rattle.mp_program.specs.Names.{is_input, is_output}

-- a port has a word of w bits, and a signal, whose width is 0, one bit
abbrev pub pad_width : ℕ → What → ℕ
pad_width w (Port way) = w
pad_width w _ = 0

-- the name and width of a pad
abbrev pub Face : Type 0
Face = List ℕ × ℕ

abbrev pub face : Pad → Face
face pad = (pad.name, pad.width)

-- the pads of the definitions of a kind, in the order of the definitions
abbrev pub pads_that : (What → Bool) → Program → List Face
pads_that is_wanted p = map (λ (x : Def). (x.name, pad_width p.width x.what)) (filter (λ x. is_wanted x.what) p.defs)

abbrev pub input_pads : Program → List Face
input_pads p = pads_that is_input p

abbrev pub output_pads : Program → List Face
output_pads p = pads_that is_output p

-- these are the pads of a program
pub record ArePadsOf (p : Program) (pads : Pads) : Type 0 where
  pub inputs : map face pads.inputs ≡ input_pads p
  pub outputs : map face pads.outputs ≡ output_pads p

-- what the values of a pad are below
abbrev pub pad_limit : ℕ → ℕ
pad_limit width = if width == 0 then 2 else 2 ^ width

-- one value for each pad, which fits it
pub record FitsPads (pads : List Face) (values : List ℕ) : Type 0 where
  pub size : length values ≡ length pads
  pub fits : (k : ℕ) → k < length pads → slice_index values k < pad_limit (slice_index (map (λ (x : Face). x.1) pads) k)
