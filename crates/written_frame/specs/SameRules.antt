-- A program as it is written and its frame break most rules at the same places.
use Rattle.std.specs.Prelude.{◌↔◌, ◌⊎◌}
use Rattle.mp_base.specs.declared.refusal.Place.{Place}
use Rattle.mp_program.specs.declared.program.Program as plain
use Rattle.mp_rules.specs.Rules as plain_rules
use Rattle.mp_written.specs.declared.program.Program.{Program}
use Rattle.written_rules.specs.Rules as rules

-- All rules but those of what stands in functions and uses. A `setq` of a function breaks E27 in the frame, and E22 as it
-- is written.
pub record HaveSameRules (w : Program) (s : plain.Program) : Type 0 where
  pub e20 : (at : Place) → plain_rules.E20 s at ↔ rules.E20 w at
  pub e23 : (at : Place) → plain_rules.E23 s at ↔ rules.E23 w at
  pub e24 : (at : Place) → plain_rules.E24 s at ↔ rules.E24 w at
  pub e25 : (at : Place) → plain_rules.E25 s at ↔ rules.E25 w at
  pub e26 : (at : Place) → plain_rules.E26 s at ↔ rules.E26 w at
  pub e27 : (at : Place) → plain_rules.E27 s at → rules.E27 w at ⊎ rules.E22 w at
  pub e27_frame : (at : Place) → rules.E27 w at → plain_rules.E27 s at
  pub e28 : (at : Place) → plain_rules.E28 s at ↔ rules.E28 w at
  pub e29 : (at : Place) → plain_rules.E29 s at ↔ rules.E29 w at
  pub e30 : (at : Place) → plain_rules.E30 s at ↔ rules.E30 w at
  pub e31 : (at : Place) → plain_rules.E31 s at ↔ rules.E31 w at
  pub e32 : (at : Place) → plain_rules.E32 s at ↔ rules.E32 w at
  pub e33 : (at : Place) → plain_rules.E33 s at ↔ rules.E33 w at
  pub e34 : (at : Place) → plain_rules.E34 s at ↔ rules.E34 w at
  pub e35 : (at : Place) → plain_rules.E35 s at ↔ rules.E35 w at
  pub e36 : (at : Place) → plain_rules.E36 s at ↔ rules.E36 w at
  pub e40 : (at : Place) → plain_rules.E40 s at ↔ rules.E40 w at
  pub e41 : (at : Place) → plain_rules.E41 s at ↔ rules.E41 w at
  pub e42 : (at : Place) → plain_rules.E42 s at ↔ rules.E42 w at
  pub e43 : (at : Place) → plain_rules.E43 s at ↔ rules.E43 w at
