-- What clap's clauses say of the forms.
use Rattle.std.proofs.Common.{◌≡◌, ◌≤◌, ◌∙◌, ◌⊎◌, inl, inr, true, false, sym, ap, subst, List, [], ◌∷◌, Option, None}
use Rattle.std.proofs.Common.{Result, Ok, Err, refl, drop, length}
use Rattle.std.specs.Prelude.{⊤, IfOk, MatchOption}
use Rattle.std.specs.List.{list_any}
use Rattle.clap.specs.Lexer.{usize_max}
use Rattle.clap.specs.Values.{kind_of}
use Rattle.clap.specs.Kinds.{FailsBy, IsAmong, Kinds}
use Rattle.clap.specs.Faults.{fault_of, is_simple_and_free}
use Rattle.clap.specs.Simple.{App, HasMatchesOf, is_simple, subcommand_of, subcommand_rows_of}
use Rattle.clap.specs.Walk.{Text}
use Rattle.clap.specs.declared.ArgMatches.{ArgMatches}
use Rattle.clap.specs.declared.Error.{Error}
use Rattle.clap.specs.declared.error.ErrorKind.{ErrorKind}
use Rattle.clap.specs.declared.error.ErrorKind.TheVariants.{OutOfMemory}
use Rattle.command_line.specs.Command.{begins_with_dash, form_of}
use Rattle.command_line.specs.App as app
use Rattle.command_line.specs.Read.{answer_of, answer_to, read_met}
use Rattle.command_line.proofs.Levels.{passes}
use Rattle.command_line.proofs.Exact.{exact}

among_fails : (k : ErrorKind) (kinds : Kinds) → IsAmong k kinds → passes kinds ≡ false
among_fails k [] among = absurd among
among_fails k (x ∷ xs) among = refl

-- the matches are of words in a form
parsed_ok : (a : App) (words : List Text) (m : ArgMatches) → a ≡ app.app
    → (is_simple_and_free a ≡ true → fault_of a words ≡ []) → HasMatchesOf a words m
    → list_any begins_with_dash words ≡ false → length words ≤ usize_max
    → read_met (drop 4 words) (subcommand_rows_of m) ≡ form_of words
parsed_ok a words m is faults matches plain few =
    let e = exact words plain few in
    let none : fault_of app.app words ≡ [] = ap (λ (x : App). fault_of x words) (sym is) ∙ faults
    (ap is_simple_and_free is) in
    ap (read_met (drop 4 words)) ((matches (ap is_simple is)).1 ∙ ap (λ (x : App). subcommand_of x words) is) ∙ e.0
    (ap passes none)

abbrev IsOther : ErrorKind → Type 0
IsOther OutOfMemory = ⊥
IsOther kind = ⊤

-- an error that isn't want of memory is of words in no form
parsed_err : (a : App) (words : List Text) (k : ErrorKind) → a ≡ app.app → IsOther k
    → (is_simple_and_free a ≡ true → (k ≡ OutOfMemory) ⊎ IsAmong k (fault_of a words))
    → list_any begins_with_dash words ≡ false → length words ≤ usize_max → form_of words ≡ None
parsed_err a words k is other kinds plain few =
    let e = exact words plain few in
    let among : passes (fault_of a words) ≡ false = elim (kinds (ap is_simple_and_free is)) [
      | inl memory ↦ absurd (subst IsOther memory other)
      | inr among ↦ among_fails k (fault_of a words) among
    ] in
    e.1 (ap (λ (y : App). passes (fault_of y words)) (sym is) ∙ among)

refused : (P : Option ArgMatches → Type 0) (k : ErrorKind) → (IsOther k → P None) → IfOk (answer_to k) P
refused P OutOfMemory none = tt
refused P k none = none tt

pub parsed : (a : App) (words : List Text) (r : Result ArgMatches Error) → a ≡ app.app
    → (is_simple_and_free a ≡ true → FailsBy (fault_of a words) r) → IfOk r (HasMatchesOf a words)
    → list_any begins_with_dash words ≡ false → length words ≤ usize_max
    → IfOk (answer_of r)
    (λ found. MatchOption found (form_of words ≡ None)
    (λ m. read_met (drop 4 words) (subcommand_rows_of m) ≡ form_of words))
parsed a words (Ok m) is faults matches plain few = parsed_ok a words m is faults matches plain few
parsed a words (Err x) is faults matches plain few = refused _ (kind_of x)
    (λ other. parsed_err a words (kind_of x) is other faults plain few)
