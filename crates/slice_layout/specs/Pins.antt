-- The pins of a slice: each column in which a segment is marked, in every slice the same.
use Rattle.std.specs.Prelude.{ℕ, List, [], ◌∷◌, ◌++◌, Option, Some, None, flat_map, length, map, slice_get}
use Rattle.std.specs.List.{range_with_len}
use Rattle.slice_form.specs.Path.{Path, Carry, Cast, Lift, Programmed}
use Rattle.slice_form.specs.Slices.{cast_column, lift_column}
use Rattle.band_lists.specs.declared.pins.Pin.{Pin}
use Rattle.band_lists.specs.declared.pins.At.TheVariants.{Column}
use Rattle.band_lists.specs.Pins.{pin, net_pins, phase_pins}

-- a net that a cast or a lift is tapped to, in the column of that
abbrev pub cast_pin : ℕ → Option Cast → List Pin
cast_pin i None = []
cast_pin i (Some c) = record { segment = c.slice; at = Column (cast_column i) } ∷ []

abbrev pub lift_pin : Path → ℕ → Option Lift → List Pin
lift_pin p i None = []
lift_pin p i (Some l) = record { segment = l.start; at = Column (lift_column p i) } ∷ []

-- both nets of a chain, in the column of its end
abbrev pub chain_pin : Option Carry → List Pin
chain_pin None = []
chain_pin (Some c) = pin c.to c.to ∷ pin c.start c.to ∷ []

-- a programmed net, in its own column
abbrev pub program_pin : Option Programmed → List Pin
program_pin None = []
program_pin (Some g) = pin g.net g.net ∷ []

abbrev pub cast_pins : Path → List Pin
cast_pins p = flat_map (λ i. cast_pin i (slice_get p.casts i)) (range_with_len 0 (length p.casts))

abbrev pub lift_pins : Path → List Pin
lift_pins p = flat_map (λ i. lift_pin p i (slice_get p.lifts i)) (range_with_len 0 (length p.lifts))

abbrev pub chain_pins : Path → List Pin
chain_pins p = flat_map (λ i. chain_pin (slice_get p.chains i)) (range_with_len 0 (length p.chains))

abbrev pub program_pins : Path → List Pin
program_pins p = flat_map (λ i. program_pin (slice_get p.programs i)) (range_with_len 0 (length p.programs))

-- words of pads begin at the west edge
abbrev pub word_pin : ℕ → Pin
word_pin n = record { segment = n; at = Column 1 }

abbrev pub word_pins : Path → List Pin
word_pins p = map word_pin p.west_words

-- but for those of stubs and of words of pads
abbrev pub slice_pins : Path → List Pin
slice_pins p =
    net_pins p.slice ++ cast_pins p ++ lift_pins p ++ chain_pins p ++ program_pins p ++ phase_pins (length p.slice) 1
