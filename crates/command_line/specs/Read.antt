-- How a command is read off clap's answer.
use Rattle.std.specs.Prelude.{List, Option, Some, None, Result, Ok, Err, alloc_error, codes, if◌then◌else◌}
use Rattle.std.specs.Prelude.{option_and_then}
use Rattle.std.specs.Str.{bytes_eq}
use Rattle.std.specs.declared.alloc.AllocError.{AllocError}
use Rattle.clap.specs.Values.{kind_of}
use Rattle.clap.specs.Walk.{Row, Text, first_of}
use Rattle.clap.specs.declared.ArgMatches.{ArgMatches}
use Rattle.clap.specs.declared.Error.{Error}
use Rattle.clap.specs.declared.error.ErrorKind.{ErrorKind}
use Rattle.clap.specs.declared.error.ErrorKind.TheVariants.{OutOfMemory}
use Rattle.command_line.specs.Command.{Command, Trace, Compile, Replay, Sim, Net, Stats, Rules, board_for, make_for}

-- a command of the word that an id took
abbrev pub read_one : (Text → Command) → Text → List Row → Option Command
read_one make x rows = option_and_then (λ a. Some (make a)) (first_of x rows)

-- a command of the words that two ids took
abbrev pub read_two : (Text → Text → Command) → Text → Text → List Row → Option Command
read_two make x y rows = option_and_then (λ a. option_and_then (λ b. Some (make a b)) (first_of y rows))
    (first_of x rows)

-- a command of the words that three ids took
abbrev pub read_three : (Text → Text → Text → Command) → Text → Text → Text → List Row → Option Command
read_three make x y z rows = option_and_then (λ a. read_two (make a) y z rows) (first_of x rows)

-- a board of these links, and of the words that three ids took
abbrev pub read_board : List Text → List Row → Option Command
read_board links rows = option_and_then (λ a. option_and_then (λ b. option_and_then (λ c. board_for a b c links)
    (first_of (codes "clocks") rows)) (first_of (codes "cif") rows)) (first_of (codes "source") rows)

-- what a number makes, of the words that two ids took
abbrev pub read_make : List Row → Option Command
read_make rows = option_and_then (λ a. option_and_then (make_for a) (first_of (codes "cif") rows))
    (first_of (codes "number") rows)

-- the command that a subcommand's name and rows hold, and the words behind the fourth
abbrev pub read_named : List Text → Text → List Row → Option Command
read_named links name rows =
    if bytes_eq name (codes "trace") then read_two Trace (codes "source") (codes "stimulus") rows
    else if bytes_eq name (codes "compile") then read_two Compile (codes "source") (codes "cif") rows
    else if bytes_eq name (codes "replay")
    then read_three Replay (codes "source") (codes "stimulus") (codes "cif") rows
    else if bytes_eq name (codes "sim") then read_two Sim (codes "cif") (codes "stimulus") rows
    else if bytes_eq name (codes "net") then read_one Net (codes "cif") rows
    else if bytes_eq name (codes "stats") then read_one Stats (codes "source") rows
    else if bytes_eq name (codes "board") then read_board links rows
    else if bytes_eq name (codes "make") then read_make rows
    else if bytes_eq name (codes "rules") then read_one Rules (codes "cif") rows
    else None

-- the command of the subcommand that was met, and the words behind the fourth
abbrev pub read_met : List Text → Option (Text × List Row) → Option Command
read_met links = option_and_then (λ p. read_named links p.0 p.1)

-- only want of memory is an error: for any other the words are in no form
abbrev pub answer_to : ErrorKind → Result (Option ArgMatches) AllocError
answer_to OutOfMemory = Err alloc_error
answer_to kind = Ok None

-- what clap's answer is to a caller
abbrev pub answer_of : Result ArgMatches Error → Result (Option ArgMatches) AllocError
answer_of (Ok matches) = Ok (Some matches)
answer_of (Err error) = answer_to (kind_of error)
