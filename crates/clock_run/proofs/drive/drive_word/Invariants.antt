use Rattle.std.proofs.Common.{ℕ, Option, take}
use Rattle.mp_base.specs.declared.value.Trit.{Trit}
use Rattle.clock_run.specs.Driving.{AreDriven, AreSet}
use Rattle.clock_run.proofs.drive.drive_word.Given as goal

abbrev pub invariant-loop-k : goal.invariant-loop-k
invariant-loop-k l = (driver : ℕ → Option Trit) → AreDriven driver l.nodes l.word
    → AreSet driver (take l.k l.nodes) l.initial.drive l.drive
