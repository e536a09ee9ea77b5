use Rattle.std.proofs.Common.{◌≡◌, length}
use Rattle.program_clock.specs.Remembered.{state_of}
use Rattle.program_clock.specs.Settled.{KeepsGiven, SettledUpTo}
use Rattle.program_clock.proofs.settle.settle.Given as goal

abbrev pub invariant-loop-target : goal.invariant-loop-target
invariant-loop-target l = record {
  size : length l.env ≡ length l.program.defs;
  given : KeepsGiven l.program (state_of l.memory) l.inputs l.env;
  settled : SettledUpTo l.program (state_of l.memory) l.env l.order l.target-index;
}
