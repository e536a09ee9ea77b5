use Rattle.kept_runs.specs.Kept.{colours_of}
use Rattle.row_windows.proofs.Reaching.{left_twice}
use Rattle.row_windows.proofs.reach.left_of.Goals as goal

-- src/reach.rt
pub returns : goal.returns
returns c = left_twice (colours_of c.args.kept.now) c.args.cell c.reach_left-middle.result c.reach_left.result
    c.reach_left-middle.ensures.left c.reach_left.ensures.left
