-- What a simulation owes.
use Rattle.std.specs.Prelude.{◌≡◌, ℕ, List, [], Option, None}
use Rattle.outside.specs.Outside.{Files, bytes_of}
use Rattle.outcome.specs.Order.{Fault, Then, OfRule}
use Rattle.outcome.specs.Work.{Work}
use Rattle.source_files.specs.Faults.{PadsFault}
use Rattle.mask_files.specs.Faults.{MaskFault}
use Rattle.sim_command.specs.Simulated.{OfCircuit, IsSimulation}

-- the faults of the files that hold masks and a stimulus
abbrev pub SetUpFault : List ℕ → List ℕ → Files → Option Fault → Type 0
SetUpFault cif stimulus files = Then (MaskFault cif files) (PadsFault None stimulus files)

-- the rules of the masks, of the stimulus and of the circuit with its pads; then the transcript, and no file
abbrev pub work : List ℕ → List ℕ → Work
work cif stimulus = record {
  First = λ files. Then (SetUpFault cif stimulus files)
      (OfRule (OfCircuit (bytes_of files cif) (bytes_of files stimulus)));
  target = None;
  Shows = λ files chip text. (chip ≡ []) × IsSimulation (bytes_of files cif) (bytes_of files stimulus) text;
}
