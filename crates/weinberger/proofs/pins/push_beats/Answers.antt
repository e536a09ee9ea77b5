use Rattle.mp_base.proofs.Ranges.{map_grown}
use Rattle.weinberger.specs.Pins.{phase_west}
use Rattle.weinberger.proofs.pins.push_beats.Goals as goal

pub loop-phase-preserved : goal.loop-phase-preserved
loop-phase-preserved c =
    map_grown c.args.pins.now.items (phase_west c.args.nets) c.loop-phase.phase _ _
    c.loop-phase.invariant c.in_ok-push.ensures.items
