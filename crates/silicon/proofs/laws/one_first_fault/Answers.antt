use Rattle.silicon.proofs.FirstFault.{single}
use Rattle.silicon.proofs.laws.one_first_fault.Goals as goal

pub returns : goal.returns
returns c = single (record {
  source = c.one_fault.ensures.source;
  run = c.one_fault.ensures.run;
  masks = c.one_mask_fault.ensures;
  drawing = c.one_drawing_fault.ensures;
  circuit = c.one_circuit_fault.ensures;
  links = c.one_link_fault.ensures;
})
