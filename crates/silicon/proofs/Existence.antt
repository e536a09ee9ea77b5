-- A command has a first fault, or none.
use Rattle.std.proofs.Common.{List, ℕ, Option, None, refl}
use Rattle.outside.specs.Outside.{Files}
use Rattle.command_line.specs.Command.{Command, Trace, Compile, Replay, Sim, Net, Stats, Board, Make, Rules}
use Rattle.outcome.specs.Order.{Fault}
use Rattle.source_files.specs.Faults.{SourceFault, RunFault}
use Rattle.mask_files.specs.Faults.{MaskFault, DrawingFault}
use Rattle.sim_command.specs.Work as simulations
use Rattle.board_command.specs.Parts.{Lent}
use Rattle.board_command.specs.Work as boards
use Rattle.silicon.specs.Faults.{IsFirstFault}

-- on all files these have a first fault, or none
abbrev pub IsTotal : (Files → Option Fault → Type 0) → Type 0
IsTotal First = (files : Files) → (fault : Option Fault) × First files fault

-- the laws of the crates below
pub record Verdicts : Type 0 where
  pub source : (source : List ℕ) → IsTotal (SourceFault source)
  pub run : (source stimulus : List ℕ) → IsTotal (RunFault source stimulus)
  pub masks : (cif : List ℕ) → IsTotal (MaskFault cif)
  pub drawing : (cif : List ℕ) → IsTotal (DrawingFault cif)
  pub circuit : (cif stimulus : List ℕ) → IsTotal (simulations.work cif stimulus).First
  pub links : (lent : Lent) (source cif : List ℕ) (clocks : ℕ) (words : List (List ℕ))
      → IsTotal (boards.work lent source cif clocks words).First

pub total : Verdicts → (lent : Lent) (command : Command) → IsTotal (IsFirstFault lent command)
total verdicts lent (Trace source stimulus) = verdicts.run source stimulus
total verdicts lent (Compile source cif) = verdicts.source source
total verdicts lent (Replay source stimulus cif) = verdicts.run source stimulus
total verdicts lent (Sim cif stimulus) = verdicts.circuit cif stimulus
total verdicts lent (Net cif) = verdicts.masks cif
total verdicts lent (Rules cif) = verdicts.drawing cif
total verdicts lent (Stats source) = verdicts.source source
total verdicts lent (Board source cif clocks words) = verdicts.links lent source cif clocks words
total verdicts lent (Make number cif) = λ files. (None, refl)
