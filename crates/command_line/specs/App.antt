-- The command that clap is given.
use Rattle.std.specs.Prelude.{◌≡◌, true, false, List, [], ◌∷◌, Some, codes, map}
use Rattle.clap.specs.Lexer.{usize_max}
use Rattle.clap.specs.Simple.{App, Shape, app_of, new_rule, new_shape, with_subcommand}
use Rattle.clap.specs.Walk.{Rule, Text}
use Rattle.clap.specs.declared.builder.command.Command.{Command}
use Rattle.clap.specs.declared.builder.command.Command.TheViews.{out-Command}

-- a word that has to be there
abbrev pub word : Text → Rule
word id = record (new_rule id) { required = true }

-- one word or more
abbrev pub words : Text → Rule
words id = record (word id) { range = Some (record { start_inclusive = 1; end_inclusive = usize_max }) }

-- a form: a name, and a word for each id
abbrev pub form : Text → List Text → Shape
form name ids = record (new_shape name) { rules = map word ids }

abbrev pub trace : Shape
trace = form (codes "trace") (codes "source" ∷ codes "stimulus" ∷ [])

abbrev pub compile : Shape
compile = form (codes "compile") (codes "source" ∷ codes "cif" ∷ [])

abbrev pub replay : Shape
replay = form (codes "replay") (codes "source" ∷ codes "stimulus" ∷ codes "cif" ∷ [])

abbrev pub sim : Shape
sim = form (codes "sim") (codes "cif" ∷ codes "stimulus" ∷ [])

abbrev pub net : Shape
net = form (codes "net") (codes "cif" ∷ [])

abbrev pub stats : Shape
stats = form (codes "stats") (codes "source" ∷ [])

abbrev pub board : Shape
board = record (new_shape (codes "board")) {
  rules = word (codes "source") ∷ word (codes "cif") ∷ word (codes "clocks") ∷ words (codes "links") ∷ [];
}

abbrev pub make : Shape
make = form (codes "make") (codes "number" ∷ codes "cif" ∷ [])

abbrev pub rules : Shape
rules = form (codes "rules") (codes "cif" ∷ [])

-- a command without subcommands
abbrev pub alone : Shape → App
alone shape = record { top = shape; subs = [] }

-- the program, which has no words of its own
abbrev pub bare_top : Shape
bare_top = record (new_shape (codes "macpitts")) {
  no_binary_name = true;
  disable_help_flag = true;
  disable_help_subcommand = true;
  disable_version_flag = true;
  subcommand_required = true;
}

abbrev pub top : Shape
top = record bare_top { is_leaf = false }

-- the program with its forms
abbrev pub app : App
app = record { top = top; subs = trace ∷ compile ∷ replay ∷ sim ∷ net ∷ stats ∷ board ∷ make ∷ rules ∷ [] }

-- a command that is a form, and has nothing for commands below it
pub record IsForm (form : Shape) (command : Command) : Type 0 where
  pub app : app_of command ≡ alone form
  pub local : (out-Command command).has_globals ≡ false

-- the old command with one more form, the last
pub record AddsForm (old : Command) (form : Shape) (new : Command) : Type 0 where
  pub app : app_of new ≡ with_subcommand (app_of old) form
