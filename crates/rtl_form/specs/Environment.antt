-- The values of all cells in a clock.
use Rattle.std.specs.Prelude.{◌≡◌, ℕ, List, Bool, true, false, length, slice_index, unwrap_or}
use Rattle.mp_base.specs.Merge.{merged}
use Rattle.rtl_form.specs.declared.rtl.CellKind.{CellKind}
use Rattle.rtl_form.specs.declared.rtl.CellKind.TheVariants.{Input, Output, Inner, Stored}
use Rattle.rtl_form.specs.declared.rtl.Cell.{Cell}
use Rattle.rtl_form.specs.declared.rtl.Rtl.{Rtl}
use Rattle.mp_base.specs.Entries.{IsAt}
use Rattle.rtl_form.specs.Values.{value_of}
use Rattle.rtl_form.specs.Written.{written}

-- an output or inner cell: its value is what transfers write to it in a clock
abbrev pub is_driven : CellKind → Bool
is_driven (Output k) = true
is_driven Inner = true
is_driven _ = false

-- a cell whose value lasts to the next clock
abbrev pub is_stored : CellKind → Bool
is_stored Stored = true
is_stored _ = false

-- the value of a cell of this kind, of the inputs, and of what is stored for it or driven to it
abbrev pub kind_value : CellKind → List ℕ → (stored driven : ℕ) → ℕ
kind_value (Input k) inputs stored driven = slice_index inputs k
kind_value (Output k) inputs stored driven = driven
kind_value Inner inputs stored driven = driven
kind_value Stored inputs stored driven = stored

-- what transfers write to the cell c, as one value, which is 0 where they write nothing
abbrev pub driven_value : Rtl → List ℕ → ℕ → ℕ
driven_value r env c = unwrap_or (merged (written (value_of r env) c r.transfers)) 0

-- the environment of a state and inputs, which has a value for each cell: all of these equations hold at once
pub record IsEnvironment (r : Rtl) (state inputs env : List ℕ) : Type 0 where
  pub size : length env ≡ length r.cells
  pub values : (c : ℕ) (x : Cell) → IsAt r.cells c x
      → slice_index env c ≡ kind_value x.kind inputs (slice_index state c) (driven_value r env c)
