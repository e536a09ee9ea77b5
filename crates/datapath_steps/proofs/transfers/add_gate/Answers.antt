use Rattle.datapath_steps.proofs.Continuing.{gate_made}
use Rattle.datapath_steps.proofs.transfers.add_gate.Goals as goal

pub returns : goal.returns
returns c =
    gate_made c.args.inputs.now c.args.making.now c.gate.new.self c.in_ok-id.id c.in_ok-id.ensures.ok c.requires.made
