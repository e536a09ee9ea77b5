-- The taps of the lines that join bands in the band of the control, and the fabric of a whole path.
use Rattle.std.specs.Prelude.{◌+◌, ℕ, suc, List, [], ◌∷◌, ◌++◌, Option, Some, None, flat_map, length, slice_get}
use Rattle.std.specs.List.{range_with_len}
use Rattle.tile_cells.specs.declared.tile.Tile.TheVariants.{TapL}
use Rattle.fabric.specs.declared.thing.Mark.{Mark}
use Rattle.fabric.specs.Plan.{Plan, with_added}
use Rattle.array_form.specs.Homes.{phase_number}
use Rattle.array_form.specs.Lists.{mark}
use Rattle.slice_form.specs.Path.{Path, Cast, Lift}
use Rattle.slice_form.specs.Slices.{cast_column, lift_column}
use Rattle.slice_laying.specs.Added.{of_phases}

-- in band 0 segment k has row `suc (row k)`
abbrev pub control_cast_taps : (ℕ → ℕ) → ℕ → Option Cast → List Mark
control_cast_taps row i None = []
control_cast_taps row i (Some c) = mark TapL 0 (suc (row c.control)) (cast_column i) ∷ []

abbrev pub control_lift_taps : Path → (ℕ → ℕ) → ℕ → Option Lift → List Mark
control_lift_taps p row i None = []
control_lift_taps p row i (Some l) = mark TapL 0 (suc (row l.control)) (lift_column p i) ∷ []

-- of the phases, the casts and the lifts
abbrev pub control_taps : Path → (ℕ → ℕ) → List Mark
control_taps p row =
    of_phases (λ ph. mark TapL 0 (suc (row (length p.control + phase_number ph))) (1 + phase_number ph))
    ++ (flat_map (λ i. control_cast_taps row i (slice_get p.casts i)) (range_with_len 0 (length p.casts))
    ++ flat_map (λ i. control_lift_taps p row i (slice_get p.lifts i)) (range_with_len 0 (length p.lifts)))

-- a fabric with these taps
abbrev pub with_taps : Plan → Path → (ℕ → ℕ) → Plan
with_taps f p row = with_added f [] [] (control_taps p row)
