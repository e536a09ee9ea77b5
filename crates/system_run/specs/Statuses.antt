-- Exit statuses.
use Rattle.std.specs.Prelude.{ℕ}
use Rattle.outcome.specs.declared.status.Status.{Status}
use Rattle.outcome.specs.declared.status.Status.TheVariants.{Done, Refused, Usage, ReadFault, WriteFault, NoMemory}

-- each way in which a run may end has its own
abbrev pub exit_status : Status → ℕ
exit_status Done = 0
exit_status Refused = 1
exit_status Usage = 2
exit_status ReadFault = 3
exit_status WriteFault = 4
exit_status NoMemory = 5
