-- The parts of a command's text, and the text of a file.
use Rattle.std.specs.Prelude.{List, ℕ, ℤ, ◌++◌, map, codes}
use Rattle.std.specs.Fmt.{signed_decimal}
use Rattle.cif_form.specs.declared.command.Command.{Command}
use Rattle.cif_form.specs.declared.command.Item.{Item}
use Rattle.cif_form.specs.Writing.{space, written}

-- a space and a number
abbrev pub number_text : ℤ → List ℕ
number_text z = space ++ signed_decimal z

-- the commands, without their offsets
abbrev pub commands_of : List Item → List Command
commands_of items = map (λ (i : Item). i.command) items

-- what is written of commands: each followed by a semicolon and a line feed, and then `E` and a line feed
abbrev pub file_text : List Command → List ℕ
file_text commands = written (codes ";\n") (codes "\n") commands
