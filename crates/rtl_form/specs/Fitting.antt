-- Values fit their widths.
use Rattle.std.specs.Prelude.{◌<◌, ◌^◌, ℕ, List, Bool, ◌==◌, if◌then◌else◌, slice_index}
use Rattle.rtl_form.specs.declared.rtl.Cell as cells
use Rattle.rtl_form.specs.declared.rtl.Rtl.{Rtl}
use Rattle.mp_base.specs.Entries.{IsAt}
use Rattle.rtl_form.specs.Environment.{IsEnvironment}
use Rattle.rtl_form.specs.Sound.{IsSound, HasSort}
use Rattle.rtl_form.specs.Step.{next_state}
use Rattle.rtl_form.specs.Values.{value_of}
use Rattle.mp_base.specs.declared.pad.Pad.{Pad}

-- how many values a word or a bit has
abbrev pub size_of : ℕ → Bool → ℕ
size_of w word = 2 ^ (if word then w else 1)

-- a value for each cell, within its width
abbrev pub CellsFit : Rtl → List ℕ → Type 0
CellsFit r values = (c : ℕ) (x : cells.Cell) → IsAt r.cells c x → slice_index values c < size_of r.width x.word

-- the inputs fit their pads
abbrev pub InputsFit : Rtl → List ℕ → Type 0
InputsFit r inputs = (k : ℕ) (pad : Pad) → IsAt (r.pads).inputs k pad
    → slice_index inputs k < 2 ^ (if pad.width == 0 then 1 else pad.width)

-- in a clock from a state that fits, with inputs that fit, everything fits
pub record AllFit (r : Rtl) (state inputs env : List ℕ) : Type 0 where
  pub cells : CellsFit r env
  pub exprs : (e : ℕ) (word : Bool) → HasSort r e word → value_of r env e < size_of r.width word
  pub next : CellsFit r (next_state r state inputs env)

abbrev pub ValuesFit : Type 0
ValuesFit = (r : Rtl) → IsSound r → (state inputs env : List ℕ) → CellsFit r state → InputsFit r inputs
    → IsEnvironment r state inputs env → AllFit r state inputs env
