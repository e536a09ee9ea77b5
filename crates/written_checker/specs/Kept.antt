-- Rules that are kept.
use Rattle.std.specs.Prelude.{ℕ}
use Rattle.mp_written.specs.declared.program.Program.{Program}
use Rattle.written_rules.specs.Breaking.{IsUnbrokenBelow}

-- no rule below E k is broken
pub record KeepsBelow (w : Program) (k : ℕ) : Type 0 where
  pub kept : IsUnbrokenBelow k w
