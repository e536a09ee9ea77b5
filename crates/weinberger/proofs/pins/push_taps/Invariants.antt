use Rattle.std.proofs.Common.{◌≡◌, ◌++◌, take}
use Rattle.weinberger.specs.Pins.{tap_pins}
use Rattle.weinberger.proofs.pins.push_taps.Given as goal

abbrev pub invariant-loop-tap : goal.invariant-loop-tap
invariant-loop-tap l = l.pins.items ≡ l.fn.pins.items ++ tap_pins (take l.tap-index l.taps)
