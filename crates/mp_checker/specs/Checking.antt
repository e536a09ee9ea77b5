-- What contracts see of a checked program.
use Rattle.std.specs.Prelude.{◌≡◌, ℕ, List}
use Rattle.mp_base.specs.declared.pad.Pads.{Pads}
use Rattle.mp_program.specs.declared.program.Program.{Program}
use Rattle.mp_program.specs.Pads.{ArePadsOf}
use Rattle.mp_program.specs.Reads.{IsOrder}
use Rattle.mp_program.specs.Weight.{weight}
use Rattle.mp_rules.specs.Breaking.{IsUnbroken}

-- a program with its pads and an order of evaluation
pub record CheckedProgram : Type 0 where
  pub program : Program
  pub pads : Pads
  pub order : List ℕ

-- a program breaks no rule, and these are its pads, an order of evaluation and its weight
pub record AreFindings (p : Program) (pads : Pads) (order : List ℕ) (total : ℕ) : Type 0 where
  pub unbroken : IsUnbroken p
  pub padded : ArePadsOf p pads
  pub ordered : IsOrder p order
  pub weighs : total ≡ weight p
