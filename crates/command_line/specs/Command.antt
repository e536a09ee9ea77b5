-- The forms of the words.
use Rattle.std.specs.Prelude.{ℕ, ◌-◌, ◌^◌, List, [], ◌∷◌, Bool, false, Option, Some, None, if◌then◌else◌, codes, ◌==◌}
use Rattle.std.specs.Prelude.{String, string_bytes, map, option_map}
use Rattle.std.specs.declared.alloc.Global.{Global}
use Rattle.std.specs.List.{list_any}
use Rattle.std.specs.Str.{bytes_eq}
use Rattle.command_line.specs.Number.{number_in}
use Rattle.command_line.specs.declared.command.TheConstants.{CLOCK_LIMIT}
use Rattle.command_line.specs.declared.command.Command as rust
use Rattle.command_line.specs.declared.command.Command.TheVariants as rust_variants

-- a command, by the names of its files; a board's number of clocks, and its links as they are written; a number to make
-- a program of
pub data Command : Type 0 where
  Trace : (source stimulus : List ℕ) → Command
  Compile : (source cif : List ℕ) → Command
  Replay : (source stimulus cif : List ℕ) → Command
  Sim : (cif stimulus : List ℕ) → Command
  Net : (cif : List ℕ) → Command
  Stats : (source : List ℕ) → Command
  Board : (source cif : List ℕ) (clocks : ℕ) (links : List (List ℕ)) → Command
  Make : (number : ℕ) (cif : List ℕ) → Command
  Rules : (cif : List ℕ) → Command

abbrev pub begins_with_dash : List ℕ → Bool
begins_with_dash [] = false
begins_with_dash (b ∷ bs) = b == 45

-- a command of exactly one word
abbrev pub one : (List ℕ → Command) → List (List ℕ) → Option Command
one make (a ∷ []) = Some (make a)
one make words = None

-- a command of exactly two words
abbrev pub two : (List ℕ → List ℕ → Command) → List (List ℕ) → Option Command
two make (a ∷ b ∷ []) = Some (make a b)
two make words = None

-- a command of exactly three words
abbrev pub three : (List ℕ → List ℕ → List ℕ → Command) → List (List ℕ) → Option Command
three make (a ∷ b ∷ c ∷ []) = Some (make a b c)
three make words = None

abbrev pub begins_with_at : List ℕ → Bool
begins_with_at [] = false
begins_with_at (b ∷ bs) = b == 64

-- the first of these words is a swap
abbrev pub swaps_first : List (List ℕ) → Bool
swaps_first [] = false
swaps_first (word ∷ words) = begins_with_at word

-- a board that runs for 1 to CLOCK_LIMIT clocks, which a word of at most five digits spells, with a link before any swap
abbrev pub board_for : List ℕ → List ℕ → List ℕ → List (List ℕ) → Option Command
board_for source cif clocks links =
    if swaps_first links then None
    else option_map (λ n. Board source cif n links) (number_in 5 1 CLOCK_LIMIT clocks)

-- a board of three words, and one link or more
abbrev pub board_of : List (List ℕ) → Option Command
board_of (source ∷ cif ∷ clocks ∷ link ∷ links) = board_for source cif clocks (link ∷ links)
board_of words = None

-- what a number below 2^64 makes, which a word of at most twenty digits spells
abbrev pub make_for : List ℕ → List ℕ → Option Command
make_for number cif = option_map (λ n. Make n cif) (number_in 20 0 (2 ^ 64 - 1) number)

-- what a number makes, of two words
abbrev pub make_of : List (List ℕ) → Option Command
make_of (number ∷ cif ∷ []) = make_for number cif
make_of words = None

-- the command that a name and the words after it stand for
abbrev pub form_named : List ℕ → List (List ℕ) → Option Command
form_named name words =
    if bytes_eq (codes "trace") name then two Trace words
    else if bytes_eq (codes "compile") name then two Compile words
    else if bytes_eq (codes "replay") name then three Replay words
    else if bytes_eq (codes "sim") name then two Sim words
    else if bytes_eq (codes "net") name then one Net words
    else if bytes_eq (codes "stats") name then one Stats words
    else if bytes_eq (codes "board") name then board_of words
    else if bytes_eq (codes "make") name then make_of words
    else if bytes_eq (codes "rules") name then one Rules words
    else None

-- the command that words stand for, where none begins with a dash
abbrev pub form_of : List (List ℕ) → Option Command
form_of [] = None
form_of (name ∷ words) = form_named name words

-- the command that words stand for
abbrev pub command_of : List (String Global) → Option Command
command_of words =
    if list_any (λ word. begins_with_dash (string_bytes word)) words then None
    else form_of (map string_bytes words)

-- a command as the code has it
abbrev pub seen : rust.Command → Command
seen (rust_variants.Trace source stimulus) = Trace source.now stimulus.now
seen (rust_variants.Compile source cif) = Compile source.now cif.now
seen (rust_variants.Replay source stimulus cif) = Replay source.now stimulus.now cif.now
seen (rust_variants.Sim cif stimulus) = Sim cif.now stimulus.now
seen (rust_variants.Net cif) = Net cif.now
seen (rust_variants.Stats source) = Stats source.now
seen (rust_variants.Board source cif clocks links) = Board source.now cif.now clocks (map string_bytes links.now)
seen (rust_variants.Make number cif) = Make number cif.now
seen (rust_variants.Rules cif) = Rules cif.now
