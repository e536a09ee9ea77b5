-- Masks with a stimulus have one first fault at most.
use Rattle.std.proofs.Common.{◌≡◌, List, ℕ, None, Option}
use Rattle.outside.specs.Outside.{Files, bytes_of}
use Rattle.mp_base.proofs.Decisions.{IsDetermined}
use Rattle.switch_net.specs.Laws.{OneFirstOfCircuit}
use Rattle.mask_net.specs.Laws.{OneNetwork}
use Rattle.outcome.specs.Order.{Fault, OfRule}
use Rattle.outcome.proofs.Determined.{one_of_two, one_of_rule}
use Rattle.source_files.specs.Faults.{PadsFault}
use Rattle.mask_files.specs.Faults.{MaskFault}
use Rattle.sim_command.specs.Simulated.{OfCircuit}
use Rattle.sim_command.specs.Work.{work, SetUpFault}
use Rattle.sim_command.proofs.Simulating.{SamePads, one_of_circuit}

-- the laws of the crates below
pub record Laws : Type 0 where
  pub masks : (cif : List ℕ) (files : Files) (a b : Option Fault) → MaskFault cif files a → MaskFault cif files b
      → a ≡ b
  pub headed : (stimulus : List ℕ) (files : Files) (a b : Option Fault) → PadsFault None stimulus files a
      → PadsFault None stimulus files b → a ≡ b
  pub same_pads : SamePads
  pub network : OneNetwork
  pub circuit : OneFirstOfCircuit

pub one_fault : Laws → (cif stimulus : List ℕ) (files : Files) → IsDetermined ((work cif stimulus).First files)
one_fault laws cif stimulus files =
    one_of_two (SetUpFault cif stimulus files) (OfRule (OfCircuit (bytes_of files cif) (bytes_of files stimulus)))
    (one_of_two (MaskFault cif files) (PadsFault None stimulus files) (laws.masks cif files)
    (laws.headed stimulus files))
    (one_of_rule _ (one_of_circuit laws.network laws.same_pads laws.circuit (bytes_of files cif)
    (bytes_of files stimulus)))
