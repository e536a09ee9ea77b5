use Rattle.system_run.proofs.Promised.{nothing_done}
use Rattle.system_run.proofs.run_with_parts.Goals as goal

pub returns-in-Err : goal.returns-in-Err
returns-in-Err g c = nothing_done _ _ _ c.in-Err.ensures
