-- The fields of a machine.
use Rattle.mp_program.specs.Reads.{IsOrder}
use Rattle.mp_program.specs.Pads.{ArePadsOf}
use Rattle.mp_rules.specs.Breaking.{IsUnbroken}
use Rattle.mp_fitting.specs.Fitting.{StateFits}
use Rattle.program_clock.specs.Running.{Running}
use Rattle.source_run.specs.declared.machine.Machine.TheInside.{Inside}

abbrev pub running_of : Inside → Running
running_of m = m.clockwork

pub record IsReady (m : Inside) : Type 0 where
  pub unbroken : IsUnbroken (m.clockwork).program
  pub padded : ArePadsOf (m.clockwork).program m.pads.now
  pub ordered : IsOrder (m.clockwork).program m.order.now
  pub fits : StateFits (m.clockwork).program (m.clockwork).state
