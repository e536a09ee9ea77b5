-- The pins of a band: each column in which a segment is marked. Segments are numbered: those of nets, then of phases.
use Rattle.std.specs.Prelude.{ℕ, ◌+◌, ◌==◌, List, [], ◌∷◌, Option, Some, None, Bool, false, cond, map, flat_map}
use Rattle.std.specs.Prelude.{length, slice_get, slice_index_or}
use Rattle.std.specs.List.{range_with_len}
use Rattle.nor_net.specs.declared.net.Phase.{Phase}
use Rattle.nor_net.specs.declared.net.NetId.{NetId}
use Rattle.nor_net.specs.declared.net.Part.{Part}
use Rattle.nor_net.specs.declared.net.Part.TheVariants.{Input, Gate, Latch}
use Rattle.array_form.specs.Homes.{phase_number}
use Rattle.band_lists.specs.declared.pins.Pin.{Pin}
use Rattle.band_lists.specs.declared.pins.At.{At}
use Rattle.band_lists.specs.declared.pins.At.TheVariants.{Home, Column}

-- a pin of a segment in the column of a net
abbrev pub pin : ℕ → ℕ → Pin
pin k n = record { segment = k; at = Home n }

-- the column is that of the net with this number
abbrev pub is_home : At → ℕ → Bool
is_home (Home n) k = n == k
is_home (Column c) k = false

-- the segment's net is marked in its own column
abbrev pub is_own : Pin → Bool
is_own p = is_home p.at p.segment

-- a gate is marked in its own column, and its inputs there too
abbrev pub gate_pins : ℕ → List NetId → List Pin
gate_pins n inputs = pin n n ∷ map (λ i. pin i.0 n) inputs

-- and so are the data and the phase of a latch
abbrev pub latch_pins : ℕ → ℕ → Phase → Option NetId → List Pin
latch_pins nets n phase None = pin n n ∷ []
latch_pins nets n phase (Some data_) = pin n n ∷ pin data_.0 n ∷ pin (nets + phase_number phase) n ∷ []

abbrev pub part_pins : ℕ → ℕ → Option Part → List Pin
part_pins nets n None = []
part_pins nets n (Some Input) = []
part_pins nets n (Some (Gate inputs)) = gate_pins n inputs
part_pins nets n (Some (Latch phase source)) = latch_pins nets n phase source

abbrev pub net_pins : List Part → List Pin
net_pins parts = flat_map (λ n. part_pins (length parts) n (slice_get parts n)) (range_with_len 0 (length parts))

-- each phase in a column of its own
abbrev pub phase_pin : ℕ → ℕ → ℕ → Pin
phase_pin nets first p = record { segment = nets + p; at = Column (first + p) }

abbrev pub phase_pins : ℕ → ℕ → List Pin
phase_pins nets first = map (phase_pin nets first) (range_with_len 0 3)

-- a segment that begins in column 1, at the west edge
abbrev pub west_pin : NetId → Pin
west_pin i = record { segment = i.0; at = Column 1 }

-- a net whose column has only a line of its own
abbrev pub stub_pin : List Bool → ℕ → List Pin
stub_pin stubs n = cond (slice_index_or stubs n false) (pin n n ∷ []) []

abbrev pub stub_pins : List Bool → List Pin
stub_pins stubs = flat_map (stub_pin stubs) (range_with_len 0 (length stubs))
