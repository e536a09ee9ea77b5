-- The table of the names of a program as it is written: that of its frame.
use Rattle.std.specs.Prelude.{ℕ, List, Option, slice_get}
use Rattle.std.specs.Option.{option_and_then}
use Rattle.mp_program.specs.declared.program.Program as plain
use Rattle.mp_written.specs.declared.program.Def.{Def}
use Rattle.mp_written.specs.declared.program.Program.{Program}
use Rattle.written_frame.specs.Frame.{IsFrame}
use Rattle.name_meanings.specs.declared.table.NameTable.{NameTable}
use Rattle.name_meanings.specs.Table.{IsNameTable, known}

-- the table of the names of a program's frame
abbrev pub NamesWritten : Program → NameTable → Type 0
NamesWritten w t = (s : plain.Program) × IsFrame w s × IsNameTable s t

-- the first definition of a name, by a table
abbrev pub definition : List Def → NameTable → List ℕ → Option Def
definition defs t x = option_and_then (slice_get defs) (known t x).first
