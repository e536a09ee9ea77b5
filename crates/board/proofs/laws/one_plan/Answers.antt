use Rattle.board.proofs.Plans.{broken_first_once, one_or_other, plan_once}
use Rattle.board.proofs.laws.one_plan.Goals as goal

pub returns-clause-plan : goal.returns-clause-plan
returns-clause-plan c = plan_once

pub returns-clause-first : goal.returns-clause-first
returns-clause-first c = broken_first_once

pub returns-clause-whole : goal.returns-clause-whole
returns-clause-whole c = one_or_other
