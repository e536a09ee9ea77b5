-- The marks of what joins bands, by kinds.
use Rattle.std.specs.Prelude.{ℕ, ◌==◌, suc, List, [], ◌∷◌, Option, Bool, not, cond, max, flat_map, length, slice_get}
use Rattle.std.specs.List.{range_with_len}
use Rattle.tile_cells.specs.declared.tile.Tile.TheVariants.{TapR, PullUp}
use Rattle.fabric.specs.declared.thing.Mark.{Mark}
use Rattle.array_form.specs.Lists.{mark, tap_tile}
use Rattle.slice_form.specs.Path.{Path, Carry}
use Rattle.slice_form.specs.PathLists.{slices_of}
use Rattle.slice_form.specs.PathWires.{side_of, below, above, open_gap}
use Rattle.slice_laying.specs.Added.{bit_marks, bit_tap, cast_taps, chain_taps, lift_taps, trunk_taps}

abbrev pub trunk_marks : Path → (ℕ → ℕ) → List Mark
trunk_marks p row = flat_map (trunk_taps p row) (slices_of p)

abbrev pub cast_marks : Path → (ℕ → ℕ) → List Mark
cast_marks p row = flat_map (λ i. cast_taps p row i (slice_get p.casts i)) (range_with_len 0 (length p.casts))

abbrev pub lift_marks : Path → (ℕ → ℕ) → List Mark
lift_marks p row = flat_map (λ i. lift_taps p row i (slice_get p.lifts i)) (range_with_len 0 (length p.lifts))

abbrev pub program_marks : Path → ℕ → (ℕ → ℕ) → List Mark
program_marks p top row =
    flat_map (λ i. bit_marks p top row (slice_get p.programs i)) (range_with_len 0 (length p.programs))

abbrev pub chain_marks : Path → (ℕ → ℕ) → List Mark
chain_marks p row = flat_map (λ i. chain_taps p row (slice_get p.chains i)) (range_with_len 0 (length p.chains))

-- the tap of a lifted net in a band that is not its slice's
abbrev pub stub_tap : (ℕ → ℕ) → ℕ → ℕ → ℕ → ℕ → List Mark
stub_tap row net slice column b = cond (not (b == suc slice)) (mark TapR b (suc (row net)) column ∷ []) []

-- a programmed net in one band
abbrev pub bit_marks_at : ℕ → (ℕ → ℕ) → ℕ → ℕ → ℕ → Option Bool → List Mark
bit_marks_at top row net column b bit = mark TapR b 0 column ∷ mark PullUp b top column ∷ bit_tap row b net column bit

-- a chain in one slice, and at its open end
abbrev pub link_marks : (ℕ → ℕ) → Carry → ℕ → ℕ → List Mark
link_marks row c column k =
    mark (tap_tile (side_of k)) (suc k) (suc (row (below c))) column
    ∷ mark (tap_tile (side_of (suc k))) (suc k) (suc (row (above c))) column ∷ []

abbrev pub open_mark : Path → Carry → ℕ → Mark
open_mark p c column = mark (tap_tile (side_of (open_gap p c))) (max 1 (open_gap p c)) 0 column
