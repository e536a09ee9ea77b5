use Rattle.std.proofs.Common.{None}
use Rattle.mp_base.proofs.SamePads.{same_pads}
use Rattle.sim_command.proofs.FirstFault.{one_fault}
use Rattle.sim_command.proofs.laws.one_circuit_fault.Goals as goal

pub returns : goal.returns
returns c = one_fault (record {
  masks = c.one_mask_fault.ensures;
  headed = c.one_fault.ensures.headed;
  same_pads = λ text s t a b. same_pads s.pads t.pads (c.one_stimulus.ensures.inputs text None s t a b)
      (c.one_stimulus.ensures.outputs text None s t a b);
  network = c.one_network.ensures;
  circuit = c.first_rule_is_determined.ensures.circuit;
})
