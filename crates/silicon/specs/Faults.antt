-- What a command owes on some files, with the parts that are lent.
use Rattle.std.specs.Prelude.{ℕ, List, Option, Some, None}
use Rattle.outside.specs.Outside.{Files}
use Rattle.command_line.specs.Command.{Command, Trace, Compile, Replay, Sim, Net, Stats, Board, Make, Rules}
use Rattle.outcome.specs.Order.{Fault, IsStrayBy}
use Rattle.outcome.specs.Work.{Work}
use Rattle.trace_command.specs.Work as traces
use Rattle.compile_command.specs.Work as compilations
use Rattle.replay_command.specs.Work as replays
use Rattle.sim_command.specs.Work as simulations
use Rattle.net_command.specs.Work as sizes
use Rattle.rules_command.specs.Work as rules
use Rattle.stats_command.specs.Work as stats
use Rattle.board_command.specs.Parts.{Lent}
use Rattle.board_command.specs.Work as boards
use Rattle.make_command.specs.Work as makings

-- the work that a command stands for
abbrev pub work_of : Lent → Command → Work
work_of lent (Trace source stimulus) = traces.work source stimulus
work_of lent (Compile source cif) = compilations.work source cif
work_of lent (Replay source stimulus cif) = replays.work source stimulus cif
work_of lent (Sim cif stimulus) = simulations.work cif stimulus
work_of lent (Net cif) = sizes.work cif
work_of lent (Rules cif) = rules.work cif
work_of lent (Stats source) = stats.work source
work_of lent (Board source cif clocks links) = boards.work lent source cif clocks links
work_of lent (Make number cif) = makings.work number cif

-- the first fault of a command on these files, in the order of work, or that there is none
abbrev pub IsFirstFault : Lent → Command → Files → Option Fault → Type 0
IsFirstFault lent command = (work_of lent command).First

-- the file that a command writes
abbrev pub target_of : Command → Option (List ℕ)
target_of (Trace source stimulus) = None
target_of (Compile source cif) = Some cif
target_of (Replay source stimulus cif) = Some cif
target_of (Sim cif stimulus) = None
target_of (Net cif) = None
target_of (Rules cif) = None
target_of (Stats source) = None
target_of (Board source cif clocks links) = Some cif
target_of (Make number cif) = Some cif

-- the file that words name to be written, where they are in a form that has one
abbrev pub target_for : Option Command → Option (List ℕ)
target_for None = None
target_for (Some command) = target_of command

-- the files are told, and the command's first fault is a file that is not held
abbrev pub IsStrayFor : Lent → Option Command → Option Files → Type 0
IsStrayFor lent None files = ⊥
IsStrayFor lent (Some command) files = IsStrayBy (IsFirstFault lent command) files
