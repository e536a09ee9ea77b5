-- Values for input pads.
use Rattle.std.specs.Prelude.{◌≡◌, ◌<◌, ℕ, List, length, slice_index}
use Rattle.mp_base.specs.declared.pad.Pad.{Pad}
use Rattle.mp_program.specs.Pads.{pad_limit}
use Rattle.mp_base.specs.Entries.{IsAt}

-- a value for each pad, which fits it
pub record AreInputsOf (pads : List Pad) (values : List ℕ) : Type 0 where
  pub size : length values ≡ length pads
  pub fits : (k : ℕ) (pad : Pad) → IsAt pads k pad → slice_index values k < pad_limit pad.width
