use Rattle.std.proofs.Common.{ℕ, Option, take}
use Rattle.std.specs.List.{AllZip}
use Rattle.mp_base.specs.declared.value.Trit.{Trit}
use Rattle.clock_run.specs.Driving.{IsDriven, AreSet}
use Rattle.clock_run.proofs.drive.drive_levels.Given as goal

abbrev pub invariant-loop-k : goal.invariant-loop-k
invariant-loop-k l = (driver : ℕ → Option Trit) → AllZip (IsDriven driver) l.nodes l.levels
    → AreSet driver (take l.k l.nodes)
    l.initial.drive l.drive
