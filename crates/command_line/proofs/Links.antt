-- The level of a board: its links are words to any number.
use Rattle.std.proofs.Common.{◌≡◌, ◌≤◌, ◌<◌, ◌∙◌, ℕ, true, false, refl, sym, ap, ap₂, List, [], ◌∷◌, ◌++◌, Some, None}
use Rattle.std.proofs.Common.{length, arith, true≢false, nat_lt, le-ltb, ne_eqb, ◌==◌, append_assoc, append-nil, codes}
use Rattle.std.specs.List.{fold}
use Rattle.clap.specs.Lexer.{usize_max}
use Rattle.clap.specs.Kinds.{or_else, range_kinds}
use Rattle.clap.specs.Faults.{values_fault}
use Rattle.clap.specs.Simple.{filled, with_index}
use Rattle.clap.specs.Walk.{Row, Rule, Text, Walk, finished, positional, walk_from, nothing_held}
use Rattle.clap.proofs.OnLiterals.{clap_on_literals}
use Rattle.command_line.specs.Command.{board_of}
use Rattle.command_line.specs.App as app
use Rattle.command_line.specs.Read.{read_named}
use Rattle.command_line.proofs.Plain.{end_fault, fed, fed_end, fed_fault, fed_level, late_fault}
use Rattle.command_line.proofs.Levels.{IsLevel, no, passes, read_at, ready}

abbrev board_rules : List Rule
board_rules = (ready app.board).rules

abbrev links_rule : Rule
links_rule = with_index 4 (filled (app.words (codes "links")))

-- the walk among the links
abbrev at_links : List Row → List Text → Walk
at_links rows links = record {
  held = record { rows = rows; pending = Some (codes "links", links); skip = 0 };
  waiting = positional;
  position = 4;
  is_trailing = false;
  stopped = None;
}

links_fed : (rows : List Row) (links more : List Text)
    → fold (fed board_rules) (at_links rows links) more ≡ at_links rows (links ++ more)
links_fed rows links [] = ap (at_links rows) (sym (append-nil links))
links_fed rows links (word ∷ more) = links_fed rows (links ++ word ∷ []) more ∙ ap (at_links rows)
    (append_assoc links (word ∷ []) more)

links_pass : (rows : List Row) (links more : List Text) → fed_fault (ready app.board) (at_links rows links) more ≡ []
links_pass rows links [] = refl
links_pass rows links (word ∷ more) = links_pass rows (links ++ word ∷ []) more

texts_pass : (values : List Text) → values_fault links_rule values ≡ []
texts_pass [] = refl
texts_pass (v ∷ vs) = texts_pass vs

in_range : (n : ℕ) → 0 < n → n ≤ usize_max → range_kinds 1 usize_max n ≡ []
in_range n some few =
    let a : (n == 0) ≡ false = ne_eqb n 0 (λ e. omega arith) in
    let b : nat_lt n 1 ≡ false = le-ltb n 1 (omega arith) in
    let c : nat_lt usize_max n ≡ false = le-ltb usize_max n few in
    rw (a, b, c) refl

-- the rows before the links
abbrev board_rows : Text → Text → Text → List Row
board_rows a b c = (fold (fed board_rules) (walk_from nothing_held) (a ∷ b ∷ c ∷ codes "x" ∷ [])).held.rows

board_end : (d : Text) (more : List Text) → length (d ∷ more) ≤ usize_max
    → or_else (range_kinds 1 usize_max (length (d ∷ more))) (values_fault links_rule (d ∷ more)) ≡ []
board_end d more few = ap₂ or_else (in_range (length (d ∷ more)) (omega arith) few) (texts_pass (d ∷ more))

board_passes : (a b c d : Text) (more : List Text) → length (d ∷ more) ≤ usize_max
    → passes (fed_level (ready app.board) (a ∷ b ∷ c ∷ d ∷ more)) ≡ true
unfolding clap_on_literals
board_passes a b c d more few =
    let rows = board_rows a b c in
    let walked : fed_end board_rules (a ∷ b ∷ c ∷ d ∷ more) ≡ (at_links rows (d ∷ more)).held
    = ap (λ (w : Walk). w.held) (links_fed rows (d ∷ []) more) in
    let passed : fed_fault (ready app.board) (walk_from nothing_held) (a ∷ b ∷ c ∷ d ∷ more) ≡ [] = links_pass rows
    (d ∷ []) more in
    let ended : end_fault (ready app.board) (at_links rows (d ∷ more)).held ≡ []
    = ap (λ k. or_else k (late_fault (ready app.board) (at_links rows (d ∷ more)).held)) (board_end d more few) in
    ap passes (ap₂ (λ k h. or_else k (end_fault (ready app.board) h)) passed walked ∙ ended)

board_read : (a b c d : Text) (more : List Text)
    → read_at (ready app.board) (a ∷ b ∷ c ∷ d ∷ more) ≡ board_of (a ∷ b ∷ c ∷ d ∷ more)
unfolding clap_on_literals
board_read a b c d more =
    ap (λ (w : Walk). read_named (d ∷ more) (codes "board") (finished board_rules w.held))
    (links_fed (board_rows a b c) (d ∷ []) more)

pub board_level : (words : List Text) → length words ≤ usize_max → IsLevel (ready app.board) words (board_of words)
unfolding clap_on_literals
board_level [] few = (no, λ e. refl)
board_level (a ∷ []) few = (no, λ e. refl)
board_level (a ∷ b ∷ []) few = (no, λ e. refl)
board_level (a ∷ b ∷ c ∷ []) few = (no, λ e. refl)
board_level (a ∷ b ∷ c ∷ d ∷ more) few = (
  λ e. board_read a b c d more,
  λ e. absurd (true≢false (sym (board_passes a b c d more (omega arith)) ∙ e)),
)
