-- The state after a clock, and what the clock shows.
use Rattle.std.specs.Prelude.{◌≡◌, ℕ, suc, List, [], ◌∷◌, Bool, false, if◌then◌else◌, ◌==◌, length, replicate}
use Rattle.std.specs.Prelude.{slice_get, slice_index, unwrap_or, option_and_then}
use Rattle.std.specs.Option.{option_map_or}
use Rattle.mp_base.specs.Merge.{merged}
use Rattle.rtl_form.specs.declared.rtl.CellKind.{CellKind}
use Rattle.rtl_form.specs.declared.rtl.CellKind.TheVariants.{Input, Output}
use Rattle.rtl_form.specs.declared.rtl.Cell.{Cell}
use Rattle.rtl_form.specs.declared.rtl.Rtl.{Rtl}
use Rattle.mp_base.specs.Entries.{IsAt}
use Rattle.rtl_form.specs.Values.{value_of}
use Rattle.rtl_form.specs.Written.{written}
use Rattle.rtl_form.specs.Environment.{is_stored}

-- The state is a list: a value for each cell, which is 0 for those that are not stored.
abbrev pub zero_state : Rtl → List ℕ
zero_state r = replicate (length r.cells) 0

-- what is stored for the cell c: what transfers write to it, or what was stored where they write nothing
abbrev pub next_stored : Rtl → List ℕ → List ℕ → ℕ → ℕ
next_stored r state env c = unwrap_or (merged (written (value_of r env) c r.transfers)) (slice_index state c)

-- the same for cells from the index c on
abbrev pub next_cells : Rtl → List ℕ → List ℕ → ℕ → List Cell → List ℕ
next_cells r state env c [] = []
next_cells r state env c (x ∷ xs) =
    (if is_stored x.kind then next_stored r state env c else 0) ∷ next_cells r state env (suc c) xs

-- the number of the input pad of a cell, and 0 for other cells
abbrev pub input_number : CellKind → ℕ
input_number (Input k) = k
input_number _ = 0

-- the input signal `reset`, if there is one, is given 1
abbrev pub resets : Rtl → List ℕ → Bool
resets r inputs = option_map_or (λ (x : Cell). slice_index inputs (input_number x.kind) == 1)
    (option_and_then (slice_get r.cells) r.reset) false

-- the state after a clock with these inputs and environment
abbrev pub next_state : Rtl → List ℕ → List ℕ → List ℕ → List ℕ
next_state r state inputs env = if resets r inputs then zero_state r else next_cells r state env 0 r.cells

-- these are the values of the output pads
pub record Shows (r : Rtl) (env outputs : List ℕ) : Type 0 where
  pub size : length outputs ≡ length (r.pads).outputs
  pub each : (c : ℕ) (x : Cell) (k : ℕ) → IsAt r.cells c x → x.kind ≡ Output k
      → slice_index outputs k ≡ slice_index env c
