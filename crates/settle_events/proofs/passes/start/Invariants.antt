use Rattle.std.proofs.Common.{◌≡◌, ◌<◌, ℕ}
use Rattle.std.specs.Prelude.{unwrap_or}
use Rattle.mp_base.specs.declared.value.Trit.TheVariants.{X}
use Rattle.switch_net.specs.Values.{value_at, driver_at}
use Rattle.settle_events.proofs.passes.start.Given as goal

abbrev pub invariant-loop-n : goal.invariant-loop-n
invariant-loop-n l = (k : ℕ) → k < l.n → value_at l.values k ≡ unwrap_or (driver_at l.drive k) X
