-- A command has one first fault at most.
use Rattle.std.proofs.Common.{◌≡◌, ◌∙◌, sym, List, ℕ, Option}
use Rattle.outside.specs.Outside.{Files}
use Rattle.command_line.specs.Command.{Command, Trace, Compile, Replay, Sim, Net, Stats, Board, Make, Rules}
use Rattle.outcome.specs.Order.{Fault}
use Rattle.source_files.specs.Faults.{SourceFault, RunFault}
use Rattle.mask_files.specs.Faults.{MaskFault, DrawingFault}
use Rattle.sim_command.specs.Work as simulations
use Rattle.board_command.specs.Parts.{Lent}
use Rattle.board_command.specs.Work as boards
use Rattle.silicon.specs.Faults.{IsFirstFault}

-- these have one first fault at most on the same files
abbrev pub IsSingle : (Files → Option Fault → Type 0) → Type 0
IsSingle First = (files : Files) (a b : Option Fault) → First files a → First files b → a ≡ b

-- the laws of the crates below
pub record Laws : Type 0 where
  pub source : (source : List ℕ) → IsSingle (SourceFault source)
  pub run : (source stimulus : List ℕ) → IsSingle (RunFault source stimulus)
  pub masks : (cif : List ℕ) → IsSingle (MaskFault cif)
  pub drawing : (cif : List ℕ) → IsSingle (DrawingFault cif)
  pub circuit : (cif stimulus : List ℕ) → IsSingle (simulations.work cif stimulus).First
  pub links : (lent : Lent) (source cif : List ℕ) (clocks : ℕ) (words : List (List ℕ))
      → IsSingle (boards.work lent source cif clocks words).First

pub single : Laws → (lent : Lent) (command : Command) → IsSingle (IsFirstFault lent command)
single laws lent (Trace source stimulus) = laws.run source stimulus
single laws lent (Compile source cif) = laws.source source
single laws lent (Replay source stimulus cif) = laws.run source stimulus
single laws lent (Sim cif stimulus) = laws.circuit cif stimulus
single laws lent (Net cif) = laws.masks cif
single laws lent (Rules cif) = laws.drawing cif
single laws lent (Stats source) = laws.source source
single laws lent (Board source cif clocks words) = laws.links lent source cif clocks words
single laws lent (Make number cif) = λ files a b x y. x ∙ sym y
