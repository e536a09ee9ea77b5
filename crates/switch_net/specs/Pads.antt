-- The labels of pads, and the bits of their values.
use Rattle.std.specs.Prelude.{ℕ, zero, suc, List, [], ◌∷◌, ◌++◌, flat_map, codes}
use Rattle.std.specs.Fmt.{decimal}
use Rattle.mp_base.specs.declared.pad.Pad.{Pad}
use Rattle.mp_base.specs.declared.pad.Pads.{Pads}
use Rattle.mp_base.specs.PadNames.{supplies}

-- p.0 to p.(n-1)
abbrev pub word_labels : List ℕ → ℕ → List (List ℕ)
word_labels p zero = []
word_labels p (suc n) = word_labels p n ++ ((p ++ (codes "." ++ decimal n)) ∷ [])

-- the labels of a pad of this name and width: those of a word's bits by their numbers, and a signal's own name
abbrev pub labels_of : List ℕ → ℕ → List (List ℕ)
labels_of p zero = p ∷ []
labels_of p (suc w) = word_labels p (suc w)

-- the labels of a pad's bits, bit 0 first
abbrev pub bit_labels : Pad → List (List ℕ)
bit_labels pad = labels_of pad.name pad.width

-- the labels of what is driven from outside
abbrev pub driver_labels : List Pad → List (List ℕ)
driver_labels inputs = supplies ++ flat_map bit_labels inputs

-- the labels that a chip with these pads has
abbrev pub chip_labels : Pads → List (List ℕ)
chip_labels pads = driver_labels pads.inputs ++ flat_map bit_labels pads.outputs
