-- The command of words that may not be had.
use Rattle.std.specs.Prelude.{Option, None, Result, Ok, Err}
use Rattle.command_line.specs.Command.{Command}

-- words that are no texts are in no form
abbrev pub command_given : {T E : Type 0} → (T → Option Command) → Result T E → Option Command
command_given command (Ok words) = command words
command_given command (Err error) = None
