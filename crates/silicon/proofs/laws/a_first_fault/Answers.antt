use Rattle.silicon.proofs.Existence.{total}
use Rattle.silicon.proofs.laws.a_first_fault.Goals as goal

pub returns : goal.returns
returns c = total (record {
  source = c.a_fault.ensures.source;
  run = c.a_fault.ensures.run;
  masks = c.a_mask_fault.ensures;
  drawing = c.a_drawing_fault.ensures;
  circuit = c.a_circuit_fault.ensures;
  links = c.a_link_fault.ensures;
})
