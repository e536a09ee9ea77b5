use Rattle.std.proofs.Common.{◌≡◌, ◌++◌}
use Rattle.std.specs.Prelude.{flat_map}
use Rattle.std.specs.List.{range_with_len}
use Rattle.band_lists.specs.Pins.{stub_pin}
use Rattle.band_lists.proofs.pins.push_stubs.Given as goal

abbrev pub invariant-loop-n : goal.invariant-loop-n
invariant-loop-n l = l.pins.items ≡ l.fn.pins.items ++ flat_map (stub_pin l.stubs) (range_with_len 0 l.n)
