use Rattle.std.proofs.Common.{◌≡◌}
use Rattle.mp_waves.specs.Running.{IsRun}
use Rattle.mp_waves.proofs.running.waves.Given as goal

abbrev pub invariant-loop-clock : goal.invariant-loop-clock
invariant-loop-clock l = record {
  program : l.machine.program ≡ l.program;
  run : IsRun l.program l.given l.clock l.machine.state l.text.items;
}
