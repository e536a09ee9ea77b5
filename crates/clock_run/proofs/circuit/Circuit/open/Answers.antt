use Rattle.std.proofs.Common.{subst, sym}
use Rattle.switch_net.specs.declared.network.Network.{Network}
use Rattle.clock_run.specs.Circuit.{IsReady}
use Rattle.clock_run.proofs.circuit.Circuit.open.Goals as goal

pub returns-clause-judged : goal.returns-clause-judged
returns-clause-judged c = c.in_ok-ready.ensures.ok.planned.has_pads

pub invariant_of-result : goal.invariant_of-result
invariant_of-result c =
    subst
    (λ (net : Network). IsReady net c.args.pads.now c.in_ok-ready.ready.plan c.in_ok-ready.ready.drive.items)
    (sym c.in_ok-settler.ensures.network) c.in_ok-ready.ensures.ok
