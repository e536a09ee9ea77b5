-- All wires and ties of a placed data path, in lists.
use Rattle.std.specs.Prelude.{◌==◌, ℕ, suc, List, [], ◌∷◌, ◌++◌, Option, Some, None, Bool, true, false, not, map}
use Rattle.std.specs.Prelude.{flat_map, filter, length, slice_get}
use Rattle.std.specs.List.{range_with_len}
use Rattle.fabric.specs.declared.thing.Side.TheVariants.{L, R}
use Rattle.nor_net.specs.declared.net.Phase.TheVariants.{A, B, C}
use Rattle.array_form.specs.Named.{Tie, tap, pull}
use Rattle.array_form.specs.Wires.{Wire, row, beat, left, right, trunk, extra, to_ground, place}
use Rattle.array_form.specs.Band.{band_rows, band_columns, band_ties}
use Rattle.slice_form.specs.Path.{Path, Carry, Cast, Lift, Programmed, parts}
use Rattle.slice_form.specs.PathWires.{
  Across,
  cast_line,
  lift_line,
  lift_stub,
  chain_line,
  side_of,
  below,
  above,
  open_gap,
}

-- the bands: the control's, and those of the slices
abbrev pub bands_of : Path → List ℕ
bands_of p = range_with_len 0 (suc p.width)

abbrev pub slices_of : Path → List ℕ
slices_of p = range_with_len 1 p.width

-- the slices in which a lifted net has a line of its own
abbrev pub others_of : Path → Lift → List ℕ
others_of p l = filter (λ b. not (b == suc l.slice)) (slices_of p)

abbrev pub lift_columns : Path → ℕ → Option Lift → List (Wire Across)
lift_columns p i None = []
lift_columns p i (Some l) = extra (lift_line i) ∷ map (λ b. extra (lift_stub i b)) (others_of p l)

abbrev pub bit_columns : Path → Option Programmed → List (Wire Across)
bit_columns p None = []
bit_columns p (Some g) = flat_map (λ b. left (place b g.net) ∷ right (place b g.net) ∷ []) (slices_of p)

abbrev pub path_rows : Path → List (Wire Across)
path_rows p = flat_map (λ b. band_rows Across b (parts p b)) (bands_of p)

abbrev pub path_columns : Path → (ℕ → ℕ → Bool) → List (Wire Across)
path_columns p stub =
    flat_map (λ b. band_columns Across b (stub b) (parts p b)) (bands_of p)
    ++ ((trunk A ∷ trunk B ∷ trunk C ∷ [])
    ++ (map (λ i. extra (cast_line i)) (range_with_len 0 (length p.casts))
    ++ (flat_map (λ i. lift_columns p i (slice_get p.lifts i)) (range_with_len 0 (length p.lifts))
    ++ (flat_map (λ i. bit_columns p (slice_get p.programs i)) (range_with_len 0 (length p.programs))
    ++ flat_map (λ i. map (λ g. extra (chain_line i g)) (bands_of p)) (range_with_len 0 (length p.chains))))))

abbrev pub cast_ties : Path → ℕ → Option Cast → List (Tie (Wire Across))
cast_ties p i None = []
cast_ties p i (Some c) = tap L (extra (cast_line i)) (row (place 0 c.control)) ∷ map
    (λ b. tap L (extra (cast_line i)) (row (place b c.slice))) (slices_of p)

abbrev pub lift_ties : Path → ℕ → Option Lift → List (Tie (Wire Across))
lift_ties p i None = []
lift_ties p i (Some l) =
    tap L (extra (lift_line i)) (row (place 0 l.control)) ∷ tap L (extra (lift_line i))
    (row (place (suc l.slice) l.start))
    ∷ map (λ b. tap R (extra (lift_stub i b)) (row (place b l.start))) (others_of p l)

-- a chain's ties in the slice at band suc k: on the line below it and on the line above it
abbrev pub slice_ties : Carry → ℕ → ℕ → List (Tie (Wire Across))
slice_ties c i k =
    tap (side_of k) (extra (chain_line i k)) (row (place (suc k) (below c)))
    ∷ tap (side_of (suc k)) (extra (chain_line i (suc k))) (row (place (suc k) (above c))) ∷ []

abbrev pub chain_ties : Path → ℕ → Option Carry → List (Tie (Wire Across))
chain_ties p i None = []
chain_ties p i (Some c) = tap (side_of (open_gap p c)) (extra (chain_line i (open_gap p c))) to_ground ∷ flat_map
    (slice_ties c i) (range_with_len 0 p.width)

-- a programmed bit: L for 1, R for 0
abbrev pub bit_tie : ℕ → ℕ → Option Bool → List (Tie (Wire Across))
bit_tie b n None = []
bit_tie b n (Some true) = tap L (left (place b n)) (row (place b n)) ∷ []
bit_tie b n (Some false) = tap R (right (place b n)) (row (place b n)) ∷ []

abbrev pub bit_ties : Path → Option Programmed → List (Tie (Wire Across))
bit_ties p None = []
bit_ties p (Some g) =
    flat_map (λ k. tap R (right (place (suc k) g.net)) to_ground ∷ pull (left (place (suc k) g.net)) ∷ bit_tie
    (suc k) g.net (slice_get g.bits k)) (range_with_len 0 p.width)

abbrev pub path_ties : Path → (ℕ → ℕ → Bool) → List (Tie (Wire Across))
path_ties p stub =
    flat_map (λ b. band_ties Across b (stub b) (parts p b)) (bands_of p)
    ++ (flat_map (λ b. tap L (trunk A) (beat b A) ∷ tap L (trunk B) (beat b B) ∷ tap L (trunk C) (beat b C) ∷ [])
    (bands_of p)
    ++ (flat_map (λ i. cast_ties p i (slice_get p.casts i)) (range_with_len 0 (length p.casts))
    ++ (flat_map (λ i. lift_ties p i (slice_get p.lifts i)) (range_with_len 0 (length p.lifts))
    ++ (flat_map (λ i. bit_ties p (slice_get p.programs i)) (range_with_len 0 (length p.programs))
    ++ flat_map (λ i. chain_ties p i (slice_get p.chains i)) (range_with_len 0 (length p.chains))))))
