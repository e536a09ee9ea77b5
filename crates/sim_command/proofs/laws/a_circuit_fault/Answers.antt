use Rattle.sim_command.proofs.Existence.{some_fault}
use Rattle.sim_command.proofs.laws.a_circuit_fault.Goals as goal

pub returns : goal.returns
returns c = some_fault (record {
  masks = c.a_mask_fault.ensures;
  headed = c.a_fault.ensures.headed;
  circuit = c.masks_are_judged.ensures.circuit;
})
