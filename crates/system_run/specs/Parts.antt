-- The parts that a chip may be joined to, and what a run with them promises.
use Rattle.std.specs.Prelude.{List, [], ◌∷◌, Option, codes, replicate}
use Rattle.command_line.specs.Command.{Command}
use Rattle.outcome.specs.World.{World, SparesFiles, IsSilent}
use Rattle.outcome.specs.declared.status.Status.{Status}
use Rattle.board.specs.Face.{Face}
use Rattle.board_parts.specs.Numbers.{number_in, counted, shifted, echoed}
use Rattle.board_parts.specs.Memory.{word_in, remembered}
use Rattle.board_command.specs.Parts.{Lent}
use Rattle.silicon.specs.Complete.{IsRun}
use Rattle.silicon.specs.Faults.{target_for}
use Rattle.silicon.specs.Run.{EndsMade, TellsUsage}

abbrev pub counter : Face
counter = record { state = 0 ∷ []; drives = number_in; sees = counted }

abbrev pub shifter : Face
shifter = record { state = 0 ∷ []; drives = number_in; sees = shifted }

abbrev pub echo : Face
echo = record { state = 0 ∷ []; drives = number_in; sees = echoed }

-- zeros, at address 0
abbrev pub memory : Face
memory = record { state = 0 ∷ replicate 256 0; drives = word_in; sees = remembered }

-- the parts of the program, by their names
abbrev pub own_parts : Lent
own_parts = record {
  names = codes "counter" ∷ codes "shifter" ∷ codes "echo" ∷ codes "memory" ∷ [];
  faces = counter ∷ shifter ∷ echo ∷ memory ∷ [];
}

-- what a run with these parts promises of its words and its status, in the worlds before and after it
pub record RunsWithParts (words : Option Command) (status : Status) (before after : World) : Type 0 where
  pub left : List Face
  pub run : IsRun own_parts left words status before after
  pub silent : IsSilent status before.text after.text
  pub spares : SparesFiles (target_for words) before.files after.files before.writes after.writes
  pub usage : TellsUsage words status before.text after.text
  pub made : EndsMade words status
