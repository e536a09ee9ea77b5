use Rattle.std.proofs.Common.{◌≡◌, ◌++◌, map}
use Rattle.std.specs.List.{range_with_len}
use Rattle.weinberger.specs.Pins.{phase_west}
use Rattle.weinberger.proofs.pins.push_beats.Given as goal

abbrev pub invariant-loop-phase : goal.invariant-loop-phase
invariant-loop-phase l = l.pins.items ≡ l.fn.pins.items ++ map (phase_west l.nets) (range_with_len 0 l.phase)
