use Rattle.mp_order.proofs.Judging.{climbs_closed}
use Rattle.mp_order.proofs.judge.is_closed.Goals as goal

pub returns : goal.returns
returns c =
    λ h. climbs_closed c.args.program.now c.args.target c.args.weights.now c.in_ok-demands.demands c.requires.driven
    c.in_ok-demands.ensures (c.climbs.ensures h)
