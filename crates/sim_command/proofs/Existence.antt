-- Masks with a stimulus have a first fault, or none.
use Rattle.std.proofs.Common.{◌⊎◌, List, ℕ, Some, None, inl, inr}
use Rattle.outside.specs.Outside.{Files, bytes_of}
use Rattle.mp_base.specs.declared.refusal.Broken.{Broken}
use Rattle.switch_net.specs.declared.network.Network.{Network}
use Rattle.switch_net.specs.Breaks.{HasPads, IsFirstOfCircuit}
use Rattle.stimulus.specs.declared.given.Stimulus.{Stimulus}
use Rattle.mask_laws.specs.Laws.{CircuitIsJudged}
use Rattle.outcome.specs.Order.{OfRule}
use Rattle.stages.proofs.Existence.{Exists, some_of_rule, some_of_two}
use Rattle.source_files.specs.Faults.{PadsFault}
use Rattle.mask_files.specs.Faults.{MaskFault}
use Rattle.sim_command.specs.Simulated.{IsSetUp, OfCircuit}
use Rattle.sim_command.specs.Work.{work, SetUpFault}

-- the laws of the crates below
pub record Verdicts : Type 0 where
  pub masks : (cif : List ℕ) (files : Files) → Exists (MaskFault cif files)
  pub headed : (stimulus : List ℕ) (files : Files) → Exists (PadsFault None stimulus files)
  pub circuit : CircuitIsJudged

some_of_circuit : CircuitIsJudged → (masks text : List ℕ) (network : Network) (given : Stimulus)
    → IsSetUp masks text network given → Exists (OfCircuit masks text)
some_of_circuit judged masks text network given is = by (judged network given.pads)
  where
    by : HasPads network given.pads ⊎ ((b : Broken) × IsFirstOfCircuit network given.pads b)
        → Exists (OfCircuit masks text)
    by (inl fits) = (None, (network, given, is, fits))
    by (inr (broken, first)) = (Some broken, (network, given, is, first))

pub some_fault : Verdicts → (cif stimulus : List ℕ) (files : Files) → Exists ((work cif stimulus).First files)
some_fault verdicts cif stimulus files =
    some_of_two (SetUpFault cif stimulus files) (OfRule (OfCircuit (bytes_of files cif) (bytes_of files stimulus)))
    (some_of_two (MaskFault cif files) (PadsFault None stimulus files) (verdicts.masks cif files)
    (λ drawn. verdicts.headed stimulus files))
    (λ set_up. some_of_rule (OfCircuit (bytes_of files cif) (bytes_of files stimulus))
    (some_of_circuit verdicts.circuit (bytes_of files cif) (bytes_of files stimulus) set_up.0.1.0 set_up.1.1.0
    (record { drawn = set_up.0.1.1; spelled = set_up.1.1.1 })))
