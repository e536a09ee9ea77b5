-- The table of names.
use Rattle.std.specs.Prelude.{◌≡◌, ℕ, List, length, unwrap_or}
use Rattle.mp_program.specs.declared.program.Program.{Program}
use Rattle.name_meanings.specs.declared.named.Named.{Named}
use Rattle.name_meanings.specs.declared.table.NameTable.{NameTable}
use Rattle.name_meanings.specs.Keys.{known_in, HoldsNames}

-- the table of a program's names
pub record IsNameTable (p : Program) (t : NameTable) : Type 0 where
  pub names : HoldsNames p.defs p.processes t.names
  pub defs : t.defs ≡ length p.defs

-- what it says of a name
abbrev pub known : NameTable → List ℕ → Named
known t x = known_in t.names x

-- the index of the first definition of a name, or the number of definitions
abbrev pub index_in : NameTable → List ℕ → ℕ
index_in t x = unwrap_or (known t x).first t.defs
