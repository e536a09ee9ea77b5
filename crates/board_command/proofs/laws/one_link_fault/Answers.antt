use Rattle.board_command.proofs.FirstFault.{one_fault}
use Rattle.board_command.proofs.laws.one_link_fault.Goals as goal

pub returns : goal.returns
returns c = one_fault (record {
  source = c.one_fault.ensures.source;
  spelled = c.one_source.ensures;
  pads = c.one_pads.ensures;
  broken = c.one_plan.ensures.first;
  whole = c.one_plan.ensures.whole;
})
