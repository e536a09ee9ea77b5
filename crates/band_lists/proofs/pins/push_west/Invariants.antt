use Rattle.std.proofs.Common.{◌≡◌, ◌++◌, map, take}
use Rattle.band_lists.specs.Pins.{west_pin}
use Rattle.band_lists.proofs.pins.push_west.Given as goal

abbrev pub invariant-loop-net : goal.invariant-loop-net
invariant-loop-net l = l.pins.items ≡ l.fn.pins.items ++ map west_pin (take l.net-index l.west)
