use Rattle.std.specs.Prelude.{Contains}
use Rattle.settle_laws.specs.Laws.{Marked}
use Rattle.settle_laws.proofs.Unique.{solution_settles}
use Rattle.settle_laws.proofs.Telling.{told_solves, redriven_tells, look_tells}
use Rattle.settle_laws.proofs.laws.ordered_settings_settle.Goals as goal

pub returns-clause-settle : goal.returns-clause-settle
returns-clause-settle c s r v ordered sol = solution_settles c.nodes_are_given.ensures.reach s r ordered v sol

pub returns-clause-solve : goal.returns-clause-solve
returns-clause-solve c s v waits = told_solves s v (Marked waits)

pub returns-clause-redriven : goal.returns-clause-redriven
returns-clause-redriven c s driver v w waits =
    redriven_tells c.nodes_are_given.ensures.reach s driver v w (Marked waits)

pub returns-clause-look : goal.returns-clause-look
returns-clause-look c s v w cluster before after =
    look_tells c.nodes_are_given.ensures.reach s v w (Contains cluster) (Marked before) (Marked after)
