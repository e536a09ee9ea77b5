-- Rules that are kept.
use Rattle.std.specs.Prelude.{ℕ}
use Rattle.mp_program.specs.declared.program.Program.{Program}
use Rattle.mp_rules.specs.Breaking.{IsUnbrokenBelow}

-- no rule below E k is broken
pub record KeepsBelow (p : Program) (k : ℕ) : Type 0 where
  pub kept : IsUnbrokenBelow k p
