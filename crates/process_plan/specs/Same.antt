-- Transfers that show what a program shows.
use Rattle.std.specs.Prelude.{◌≡◌, ◌↔◌, ℕ, ◌≤◌, List, true, All}
use Rattle.mp_program.specs.declared.program.Program.{Program}
use Rattle.mp_program.specs.Pads.{ArePadsOf, input_pads, FitsPads}
use Rattle.mp_program.specs.Trace as source
use Rattle.mp_program.specs.Step as source_step
use Rattle.mp_program.specs.Weight.{weight}
use Rattle.rtl_form.specs.declared.rtl.Rtl.{Rtl}
use Rattle.rtl_form.specs.Cost.{cost}
use Rattle.rtl_form.specs.Sound.{IsSound}
use Rattle.rtl_form.specs.Step as rtl_step
use Rattle.rtl_form.specs.Trace as rtl

-- inputs of any number of clocks, each of which fits the pads
abbrev pub InputsFit : Program → List (List ℕ) → Type 0
InputsFit p inputs = All (FitsPads (input_pads p)) inputs

-- transfers that fit together, have the pads of a program, show what it shows, and cost no more than it weighs
pub record IsSame (p : Program) (r : Rtl) : Type 0 where
  pub sound : IsSound r
  pub width : r.width ≡ p.width
  pub pads : ArePadsOf p r.pads
  -- both show the same, in every clock
  pub traces : (inputs outputs : List (List ℕ)) → InputsFit p inputs
      → source.IsTrace p inputs outputs ↔ rtl.IsTrace r inputs outputs
  -- a clock resets the one where it resets the other; where a cell is stored, `reset` is there (by `sound`)
  pub resets : (inputs : List ℕ) → rtl.stores r ≡ true → rtl_step.resets r inputs ≡ source_step.resets p.defs inputs
  pub stores : rtl.stores r ≡ true → source.stores p ≡ true
  pub cost : cost r ≤ weight p
