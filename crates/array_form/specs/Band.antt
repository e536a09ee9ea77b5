-- What one placed net adds to a fabric, in a list.
use Rattle.std.specs.Prelude.{◌==◌, ℕ, List, [], ◌∷◌, ◌++◌, Option, Some, None, Bool}
use Rattle.std.specs.Prelude.{true, false, not, cond, map, flat_map, filter, length, slice_get}
use Rattle.std.specs.List.{range_with_len}
use Rattle.fabric.specs.declared.thing.Side.TheVariants.{L, R}
use Rattle.nor_net.specs.declared.net.Phase.TheVariants.{A, B, C}
use Rattle.nor_net.specs.declared.net.NetId.{NetId}
use Rattle.nor_net.specs.declared.net.Part.{Part}
use Rattle.nor_net.specs.declared.net.Part.TheVariants.{Input, Gate, Latch}
use Rattle.array_form.specs.Named.{Tie, tap, tran, pull}
use Rattle.array_form.specs.Wires.{Wire, row, beat, left, right, to_ground, place}

-- the number is in the list
abbrev pub has : ℕ → List ℕ → Bool
has a [] = false
has a (x ∷ xs) = cond (x == a) true (has a xs)

-- the numbers that differ from this one
abbrev pub without : ℕ → List ℕ → List ℕ
without x ys = filter (λ y. not (y == x)) ys

-- each number once, where it stands first
abbrev pub distinct : List ℕ → List ℕ
distinct [] = []
distinct (x ∷ xs) = x ∷ without x (distinct xs)

-- the different inputs of a gate
abbrev pub inputs_of : List NetId → List ℕ
inputs_of ins = distinct (map (λ i. i.0) ins)

-- the lines in a net's own column
abbrev pub net_columns : (X : Type 0) → ℕ → ℕ → Bool → Option Part → List (Wire X)
net_columns X b n stub None = []
net_columns X b n stub (Some Input) = cond stub (left (place b n) ∷ []) []
net_columns X b n stub (Some (Gate ins)) = left (place b n) ∷ right (place b n) ∷ []
net_columns X b n stub (Some (Latch ph None)) = []
net_columns X b n stub (Some (Latch ph (Some d))) = left (place b n) ∷ right (place b n) ∷ []

-- what is tied there
abbrev pub net_ties : (X : Type 0) → ℕ → ℕ → Bool → Option Part → List (Tie (Wire X))
net_ties X b n stub None = []
net_ties X b n stub (Some Input) = cond stub (tap L (left (place b n)) (row (place b n)) ∷ []) []
net_ties X b n stub (Some (Gate ins)) =
    tap L (left (place b n)) (row (place b n)) ∷ tap R (right (place b n)) to_ground ∷ pull (left (place b n))
    ∷ map (λ i. tran (row (place b i)) (left (place b n)) (right (place b n))) (inputs_of ins)
net_ties X b n stub (Some (Latch ph None)) = []
net_ties X b n stub (Some (Latch ph (Some d))) =
    tap L (left (place b n)) (row (place b n)) ∷ tap R (right (place b n)) (row (place b d.0)) ∷ tran (beat b ph)
    (left (place b n)) (right (place b n)) ∷ []

-- the segments of a band: of its nets, and then of the phases
abbrev pub band_rows : (X : Type 0) → ℕ → List Part → List (Wire X)
band_rows X b parts =
    map (λ n. row (place b n)) (range_with_len 0 (length parts)) ++ (beat b A ∷ beat b B ∷ beat b C ∷ [])

abbrev pub band_columns : (X : Type 0) → ℕ → (ℕ → Bool) → List Part → List (Wire X)
band_columns X b stub parts =
    flat_map (λ n. net_columns X b n (stub n) (slice_get parts n)) (range_with_len 0 (length parts))

abbrev pub band_ties : (X : Type 0) → ℕ → (ℕ → Bool) → List Part → List (Tie (Wire X))
band_ties X b stub parts =
    flat_map (λ n. net_ties X b n (stub n) (slice_get parts n)) (range_with_len 0 (length parts))
