use Rattle.std.proofs.Common.{refl}
use Rattle.system_run.proofs.Promised.{nothing_done}
use Rattle.system_run.proofs.run_given.Goals as goal

pub returns-in-Err : goal.returns-in-Err
returns-in-Err g c = nothing_done _ _ _ refl
