use Rattle.std.proofs.Common.{ℕ, Option, take}
use Rattle.std.specs.Prelude.{flat_map}
use Rattle.std.specs.List.{AllZip}
use Rattle.mp_base.specs.declared.value.Trit.{Trit}
use Rattle.clock_run.specs.Driving.{AreDriven, AreSet}
use Rattle.clock_run.proofs.drive.drive_words.Given as goal

abbrev pub invariant-loop-k : goal.invariant-loop-k
invariant-loop-k l = (driver : ℕ → Option Trit) → AllZip (AreDriven driver) l.nodes l.words → AreSet driver
    (flat_map (λ ns. ns) (take l.k l.nodes)) l.initial.drive l.drive
