-- What is added to a fabric for the slices of a path: in bands 1 to its width a net each, and the lines that join them.
use Rattle.std.specs.Prelude.{◌+◌, ℕ, suc, List, [], ◌∷◌, ◌++◌, Option, Some, None, Bool, true, false, map, flat_map}
use Rattle.std.specs.Prelude.{length, max, slice_get}
use Rattle.std.specs.List.{range_with_len}
use Rattle.tile_cells.specs.declared.tile.Tile.TheVariants.{TapL, TapR, PullUp}
use Rattle.fabric.specs.declared.thing.Segment.{Segment}
use Rattle.fabric.specs.declared.thing.Line.{Line}
use Rattle.fabric.specs.declared.thing.Mark.{Mark}
use Rattle.fabric.specs.Plan.{Plan, with_added}
use Rattle.nor_net.specs.declared.net.Phase.{Phase}
use Rattle.nor_net.specs.declared.net.Phase.TheVariants.{A, B, C}
use Rattle.array_form.specs.Homes.{home, phase_number}
use Rattle.array_form.specs.Laying.{band_segments, band_lines, band_marks}
use Rattle.array_form.specs.Lists.{mark, tap_tile}
use Rattle.array_form.specs.Place.{cols_in}
use Rattle.slice_form.specs.Joints.{joint_lines}
use Rattle.slice_form.specs.Path.{Path, Carry, Cast, Lift, Programmed}
use Rattle.slice_form.specs.PathLists.{slices_of, others_of}
use Rattle.slice_form.specs.PathWires.{side_of, below, above, open_gap}
use Rattle.slice_form.specs.Slices.{cast_column, lift_column, plain_slice, slice_columns}

-- the columns of segment k of a slice: of its nets, and then of the phases
abbrev pub slice_cols : Path → ℕ → List ℕ
slice_cols p = cols_in (slice_columns p) p.slice

-- the nets of the slices, each in the band with its number, where segment k has row `suc (row k)` in each; `top` is the
-- number of rows
abbrev pub slice_segments : Path → (ℕ → ℕ) → List Segment
slice_segments p row = flat_map (λ b. band_segments b (slice_cols p) row p.slice) (slices_of p)

abbrev pub slice_lines : Path → List Line
slice_lines p = flat_map (λ b. band_lines b (slice_columns p) p.slice) (slices_of p)

abbrev pub slice_marks : Path → ℕ → (ℕ → ℕ) → List Mark
slice_marks p top row = flat_map (λ b. band_marks b top row (slice_columns p) p.slice) (slices_of p)

-- one for each phase
abbrev pub of_phases : {X : Type 0} → (Phase → X) → List X
of_phases f = f A ∷ f B ∷ f C ∷ []

-- the taps of the phases' lines in the band of a slice
abbrev pub trunk_taps : Path → (ℕ → ℕ) → ℕ → List Mark
trunk_taps p row b = of_phases (λ ph. mark TapL b (suc (row (length p.slice + phase_number ph))) (1 + phase_number ph))

-- those of a cast: one in each slice
abbrev pub cast_taps : Path → (ℕ → ℕ) → ℕ → Option Cast → List Mark
cast_taps p row i None = []
cast_taps p row i (Some c) = map (λ b. mark TapL b (suc (row c.slice)) (cast_column i)) (slices_of p)

-- those of a lift: of its own line in its slice, and of lines that lead nowhere in the others
abbrev pub lift_taps : Path → (ℕ → ℕ) → ℕ → Option Lift → List Mark
lift_taps p row i None = []
lift_taps p row i (Some l) =
    mark TapL (suc l.slice) (suc (row l.start)) (lift_column p i)
    ∷ map (λ b. mark TapR b (suc (row l.start)) (lift_column p i)) (others_of p l)

-- a programmed bit is a gate without inputs, whose row is tapped to its own line for 1 and to ground's for 0
abbrev pub bit_tap : (ℕ → ℕ) → ℕ → ℕ → ℕ → Option Bool → List Mark
bit_tap row b n column None = []
bit_tap row b n column (Some true) = mark TapL b (suc (row n)) column ∷ []
bit_tap row b n column (Some false) = mark TapR b (suc (row n)) column ∷ []

abbrev pub bit_marks : Path → ℕ → (ℕ → ℕ) → Option Programmed → List Mark
bit_marks p top row None = []
bit_marks p top row (Some g) =
    flat_map (λ k. mark TapR (suc k) 0 (home (plain_slice p) g.net) ∷ mark PullUp (suc k) top
    (home (plain_slice p) g.net) ∷ bit_tap row (suc k) g.net (home (plain_slice p) g.net) (slice_get g.bits k))
    (range_with_len 0 p.width)

-- a chain's taps in a slice, on the line below it and on the line above it; its open end is ground
abbrev pub link_taps : Path → (ℕ → ℕ) → Carry → ℕ → List Mark
link_taps p row c k =
    mark (tap_tile (side_of k)) (suc k) (suc (row (below c))) (home (plain_slice p) c.to)
    ∷ mark (tap_tile (side_of (suc k))) (suc k) (suc (row (above c))) (home (plain_slice p) c.to) ∷ []

abbrev pub chain_taps : Path → (ℕ → ℕ) → Option Carry → List Mark
chain_taps p row None = []
chain_taps p row (Some c) =
    mark (tap_tile (side_of (open_gap p c))) (max 1 (open_gap p c)) 0 (home (plain_slice p) c.to)
    ∷ flat_map (link_taps p row c) (range_with_len 0 p.width)

-- the marks of the lines that join bands, in bands 1 to the width
abbrev pub joint_marks : Path → ℕ → (ℕ → ℕ) → List Mark
joint_marks p top row =
    flat_map (trunk_taps p row) (slices_of p)
    ++ (flat_map (λ i. cast_taps p row i (slice_get p.casts i)) (range_with_len 0 (length p.casts))
    ++ (flat_map (λ i. lift_taps p row i (slice_get p.lifts i)) (range_with_len 0 (length p.lifts))
    ++ (flat_map (λ i. bit_marks p top row (slice_get p.programs i)) (range_with_len 0 (length p.programs))
    ++ flat_map (λ i. chain_taps p row (slice_get p.chains i)) (range_with_len 0 (length p.chains)))))

-- a fabric with the slices of a path
abbrev pub with_slices : Plan → Path → ℕ → (ℕ → ℕ) → Plan
with_slices f p top row =
    with_added f (slice_segments p row) (slice_lines p ++ joint_lines p)
    (slice_marks p top row ++ joint_marks p top row)
