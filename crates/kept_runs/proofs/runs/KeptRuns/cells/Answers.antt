use Rattle.std.proofs.Common.{rules}
use Rattle.kept_runs.specs.Kept.{width_of}
use Rattle.kept_runs.proofs.runs.KeptRuns.cells.Goals as goal

-- src/runs.rt
pub returns : goal.returns
unfolding width_of
returns c = search rules
