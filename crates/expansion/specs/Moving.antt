-- A definition, but for functions.
use Rattle.std.specs.Prelude.{Option}
use Rattle.mp_program.specs.declared.program.Def as plain
use Rattle.mp_written.specs.declared.program.Def.{Def}
use Rattle.mp_written.specs.Functions.{plain_what_of, plain_def}

abbrev pub plain_of : Def → Option plain.Def
plain_of d = plain_def d (plain_what_of d.what)
