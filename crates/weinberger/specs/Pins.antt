-- The pins of a band, in its net's columns, in those of taps and in those of phases.
use Rattle.std.specs.Prelude.{ℕ, ◌+◌, List, ◌++◌, map, length}
use Rattle.std.specs.List.{range_with_len}
use Rattle.nor_net.specs.declared.net.NetId.{NetId}
use Rattle.nor_net.specs.declared.net.Part.{Part}
use Rattle.array_form.specs.declared.band.Tap.{Tap}
use Rattle.array_form.specs.declared.band.Band.{Band}
use Rattle.band_lists.specs.declared.pins.Pin.{Pin}
use Rattle.band_lists.specs.declared.pins.At.TheVariants.{Column}
use Rattle.band_lists.specs.Pins.{net_pins, phase_pins, west_pin}

abbrev pub tap_pin : Tap → Pin
tap_pin t = record { segment = t.net.0; at = Column t.column }

abbrev pub tap_pins : List Tap → List Pin
tap_pins taps = map tap_pin taps

abbrev pub band_pins : Band → List Part → List Pin
band_pins band parts = net_pins parts ++ tap_pins band.taps ++ phase_pins (length parts) band.first_column

-- at the west edge, those of nets that begin there, and those of phases
abbrev pub phase_west : ℕ → ℕ → Pin
phase_west nets p = record { segment = nets + p; at = Column 1 }

abbrev pub west_pins : ℕ → List NetId → List Pin
west_pins nets west = map west_pin west ++ map (phase_west nets) (range_with_len 0 3)
