use Rattle.std.proofs.Common.{◌≡◌, length}
use Rattle.mp_order.specs.Demands.{WeighsDriven}
use Rattle.mp_order.proofs.judge.keep_driven.Given as goal

abbrev pub invariant-loop-d : goal.invariant-loop-d
invariant-loop-d l = (length l.kept ≡ length l.program.defs) × WeighsDriven l.program l.kept
