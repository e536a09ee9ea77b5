use Rattle.std.proofs.Common.{List, Option, subst}
use Rattle.nor_net.specs.declared.net.NetId.{NetId}
use Rattle.control_nor.specs.Lowering.{Stands}
use Rattle.datapath_steps.proofs.Continuing.{term_made}
use Rattle.datapath_steps.proofs.transfers.add_term.Goals as goal

pub returns : goal.returns
returns c =
    term_made c.args.transfer c.args.making.now c.add_guard.new.making c.add_gate.new.making c.add_gate-2.new.making
    c.in_ok-guard.guard c.net_of-value.result c.in_ok-off_value.off_value c.in_ok-net.net c.in_ok-guard.ensures
    (subst (λ (ws : List (Option NetId)). Stands ws c.args.transfer.value c.net_of-value.result) c.as_slice.ensures
    c.net_of-value.ensures)
    c.in_ok-off_value.ensures c.in_ok-net.ensures
