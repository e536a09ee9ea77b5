-- What the clauses of a run leave no choice of.
use Rattle.std.specs.Prelude.{◌≡◌, ◌⊎◌, ◌<◌, List, Option, Some, None}
use Rattle.outside.specs.Outside.{Rose}
use Rattle.command_line.specs.Command.{Command}
use Rattle.outcome.specs.Order.{Fault, Stray, Breaks}
use Rattle.outcome.specs.World.{World, HasCauses, Leaves}
use Rattle.outcome.specs.declared.status.Status.{Status}
use Rattle.outcome.specs.declared.status.Status.TheVariants.{Done, Refused, ReadFault}
use Rattle.board.specs.Face.{Face}
use Rattle.board_command.specs.Parts.{Lent}
use Rattle.silicon.specs.Faults.{IsStrayFor}
use Rattle.silicon.specs.Run.{IsForWords, Did}

-- what a run promises of its words and its status, with the parts and in the worlds before and after it
pub record IsRun (lent : Lent) (left : List Face) (words : Option Command) (status : Status) (before after : World) :
    Type 0 where
  pub form : IsForWords words status
  pub causes : HasCauses status (IsStrayFor lent words after.files) before after
  pub content : Leaves (Did lent left words status) before after

-- a call failed, by the counts of faults
abbrev pub AnyRose : World → World → Type 0
AnyRose before after =
    Rose before.reads after.reads ⊎ Rose before.writes after.writes ⊎ Rose before.prints after.prints

-- a count of faults is greater
abbrev pub AnyGreater : World → World → Type 0
AnyGreater before after =
    (before.reads < after.reads) ⊎ (before.writes < after.writes) ⊎ (before.prints < after.prints)

-- no fault is counted
abbrev pub CountsNothing : World → Type 0
CountsNothing world = (world.reads ≡ 0) × (world.writes ≡ 0) × (world.prints ≡ 0)

-- the status of a command on files with this first fault
abbrev pub status_by : Option Fault → Status
status_by None = Done
status_by (Some Stray) = ReadFault
status_by (Some (Breaks broken)) = Refused
