use Rattle.board_command.proofs.Existence.{some_fault}
use Rattle.board_command.proofs.laws.a_link_fault.Goals as goal

pub returns : goal.returns
returns c = some_fault c.a_fault.ensures.source c.plan_verdict.ensures
