use Rattle.std.proofs.Common.{◌≡◌, ◌+◌, ◌<◌, take}
use Rattle.fabric.specs.Room.{limit}
use Rattle.weinberger.specs.Layouts.{base_of}
use Rattle.weinberger.proofs.layout.base.Given as goal

abbrev pub invariant-loop-tap : goal.invariant-loop-tap
invariant-loop-tap l = record {
  value : l.base ≡ base_of l.first_column (take l.tap-index l.taps);
  small : l.base < limit + 3;
}
