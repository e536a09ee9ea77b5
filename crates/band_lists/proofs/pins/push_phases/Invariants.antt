use Rattle.std.proofs.Common.{◌≡◌, ◌++◌, map}
use Rattle.std.specs.List.{range_with_len}
use Rattle.band_lists.specs.Pins.{phase_pin}
use Rattle.band_lists.proofs.pins.push_phases.Given as goal

abbrev pub invariant-loop-phase : goal.invariant-loop-phase
invariant-loop-phase l =
    l.pins.items ≡ l.fn.pins.items ++ map (phase_pin l.nets l.first_column) (range_with_len 0 l.phase)
