-- What the settings of a word and of the program, and its forms, make of what clap reads of them.
use Rattle.std.proofs.Common.{◌≡◌, ◌∙◌, ◌||◌, ◌++◌, true, false, [], ◌∷◌, ap, ap₂, codes, Option, Some, None}
use Rattle.std.specs.Prelude.{IsSomeAnd}
use Rattle.clap.specs.Lexer.{usize_max}
use Rattle.clap.specs.Built.{AddsArg, AddsSubcommand}
use Rattle.clap.specs.Simple.{App, Shape, app_of, app_of_fields, new_app, new_rule, on_top, with_rule}
use Rattle.clap.specs.Simple.{with_subcommand}
use Rattle.clap.specs.Walk.{Rule, Text, rule_of}
use Rattle.clap.specs.declared.builder.arg.Arg.{Arg}
use Rattle.clap.specs.declared.builder.command.Command.{Command}
use Rattle.clap.specs.declared.builder.command.Command.TheOpen.{Command-F}
use Rattle.clap.specs.declared.builder.range.ValueRange.{ValueRange}
use Rattle.command_line.specs.App as app

pub required_word : (id : Text) (a b : Arg) → rule_of a ≡ new_rule id → b ≡ record a { required = true }
    → rule_of b ≡ app.word id
required_word id a b new is = ap rule_of is ∙ ap (λ (r : Rule). record r { required = true }) new

pub required_local : (a b : Arg) → a.global ≡ false → b ≡ record a { required = true } → b.global ≡ false
required_local a b local is = ap (λ (x : Arg). x.global) is ∙ local

some_is : {T : Type 0} (o : Option T) (x : T) → IsSomeAnd o (λ y. y ≡ x) → o ≡ Some x
some_is None x is = absurd is
some_is (Some y) x is = ap Some is

abbrev from_one : ValueRange
from_one = record { start_inclusive = 1; end_inclusive = usize_max }

pub many_words : (id : Text) (a b : Arg) → rule_of a ≡ app.word id → b ≡ record a { num_vals = b.num_vals }
    → IsSomeAnd b.num_vals (λ r. r ≡ from_one) → rule_of b ≡ app.words id
many_words id a b one is range =
    ap rule_of is ∙ ap₂ (λ (r : Rule) v. record r { range = v }) one (some_is b.num_vals from_one range)

pub many_local : (a b : Arg) → a.global ≡ false → b ≡ record a { num_vals = b.num_vals } → b.global ≡ false
many_local a b local is = ap (λ (x : Arg). x.global) is ∙ local

pub top_settings : (a b c d e f : Command-F Command) → app_of_fields a ≡ new_app (codes "macpitts")
    → b ≡ record a { no_binary_name = true } → c ≡ record b { disable_help_flag = true }
    → d ≡ record c { disable_help_subcommand = true } → e ≡ record d { disable_version_flag = true }
    → f ≡ record e { subcommand_required = true } → app_of_fields f ≡ app.alone app.bare_top
top_settings a b c d e f new unnamed helpless topicless versionless required =
    ap app_of_fields required ∙ ap (on_top (λ (s : Shape). record s { subcommand_required = true }))
    (ap app_of_fields versionless ∙ ap (on_top (λ (s : Shape). record s { disable_version_flag = true }))
    (ap app_of_fields topicless ∙ ap (on_top (λ (s : Shape). record s { disable_help_subcommand = true }))
    (ap app_of_fields helpless ∙ ap (on_top (λ (s : Shape). record s { disable_help_flag = true }))
    (ap app_of_fields unnamed ∙ ap (on_top (λ (s : Shape). record s { no_binary_name = true })) new))))

-- a form with one more word
pub with_word : (form : Shape) (rule : Rule) (old : Command) (arg : Arg) → app.IsForm form old → rule_of arg ≡ rule
    → arg.global ≡ false → (new : Command) → AddsArg old arg new
    → app.IsForm (record form { rules = form.rules ++ rule ∷ [] }) new
with_word form rule old arg is ruled local new added = record {
  app = added.shape local ∙ ap₂ with_rule is.app ruled;
  local = added.globals ∙ ap₂ ◌||◌ is.local local;
}

module _ (old : Command) (form : Shape) where
  -- a subcommand that is a form
  pub adds_form : (sub : Command) → app.IsForm form sub → (new : Command) → AddsSubcommand old sub new
      → app.AddsForm old form new
  adds_form sub is new added =
      record { app = added.shape is.local ∙ ap (with_subcommand (app_of old)) (ap (λ (a : App). a.top) is.app) }

  -- the forms before it are known
  pub one_more_form : (before : App) → app_of old ≡ before → (new : Command) → app.AddsForm old form new
      → app_of new ≡ with_subcommand before form
  one_more_form before is new added = added.app ∙ ap (λ (a : App). with_subcommand a form) is
