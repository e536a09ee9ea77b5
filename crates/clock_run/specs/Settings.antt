-- The settings of a clock.
use Rattle.std.specs.Prelude.{List, [], ◌∷◌}
use Rattle.mp_base.specs.declared.value.Trit.{Trit}
use Rattle.mp_base.specs.declared.value.Trit.TheVariants.{Zero, One}
use Rattle.switch_net.specs.Clock.{Phases}
use Rattle.clock_run.specs.declared.setting.Setting.{Setting}
use Rattle.clock_run.specs.declared.setting.Setting.TheVariants.{Quiet, PhiA, PhiB, PhiC}

-- the phases in a setting
abbrev pub phases_of : Setting → Phases
phases_of Quiet = record { phia = Zero; phib = Zero; phic = Zero }
phases_of PhiA = record { phia = One; phib = Zero; phic = Zero }
phases_of PhiB = record { phia = Zero; phib = One; phic = Zero }
phases_of PhiC = record { phia = Zero; phib = Zero; phic = One }

-- the values of vdd, gnd, phia, phib and phic
abbrev pub levels : Phases → List Trit
levels p = One ∷ Zero ∷ p.phia ∷ p.phib ∷ p.phic ∷ []
