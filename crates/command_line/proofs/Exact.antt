-- Where clap finds no fault the command is read off its matches, and else the words stand for none.
use Rattle.std.proofs.Common.{◌≡◌, ◌≤◌, ◌∙◌, true, false, refl, sym, ap, ap₂, subst, inl, inr, List, [], ◌∷◌, Option}
use Rattle.std.proofs.Common.{Some, None, is_some, codes, drop, length, arith, true≢false}
use Rattle.std.specs.List.{fold, list_any, find}
use Rattle.std.specs.Str.{bytes_eq}
use Rattle.std.specs.Option.{option_map, option_map_or}
use Rattle.std.proofs.lemmas.Bool.{cases_Bool, or_parts}
use Rattle.std.proofs.lemmas.Slice.Eq.{bytes_eq-Decides}
use Rattle.clap.specs.Lexer.{usize_max}
use Rattle.clap.specs.Kinds.{Kinds, or_else}
use Rattle.clap.specs.Faults.{check_fault, defaults_fault, entered_fault, fault_of, level_fault, other_fault}
use Rattle.clap.specs.Faults.{settle_fault, step_fault, walk_fault}
use Rattle.clap.specs.Simple.{App, Shape, built, entered, label_of, names_of, rows_at, subcommand_of}
use Rattle.clap.specs.Walk.{Text, Walk, after_step, answers_to, finished, idle, nothing_held, settled, subcommand_met}
use Rattle.clap.specs.Walk.{subcommand_or_other, walk, walk_from, walked}
use Rattle.clap.proofs.FaultLemmas.{stopped_fault}
use Rattle.clap.proofs.OnLiterals.{clap_on_literals}
use Rattle.command_line.specs.Command.{Command, begins_with_dash, form_named, form_of}
use Rattle.command_line.specs.App as app
use Rattle.command_line.specs.Read.{read_met, read_named}
use Rattle.command_line.proofs.Plain.{fed_level, level_plain, rows_plain, turn_plain, walk_stopped}
use Rattle.command_line.proofs.Levels.{IsLevel, no, passes, read_at, ready, trace_level, compile_level, replay_level}
use Rattle.command_line.proofs.Levels.{sim_level, net_level, stats_level, make_level, rules_level}
use Rattle.command_line.proofs.Links.{board_level}

abbrev whole : App
whole = built app.app

-- the name of a subcommand stops the walk
named_walk : (name label : Text) (words : List Text) → subcommand_met (names_of whole) idle name ≡ Some label
    → walk whole.top.rules (names_of whole) nothing_held (name ∷ words) ≡ record
    (walk_from nothing_held) { stopped = Some (label, words) }
unfolding walked
named_walk name label words known =
    ap (λ o. fold (walked whole.top.rules (names_of whole))
    (after_step whole.top.rules name (walk_from nothing_held)
    (subcommand_or_other whole.top.rules o idle 1 name nothing_held).0
    (subcommand_or_other whole.top.rules o idle 1 name nothing_held).1) words) known
    ∙ walk_stopped whole.top.rules (names_of whole) (walk_from nothing_held) (label, []) words

-- and is no fault
named_fault : (name label : Text) (words : List Text) → subcommand_met (names_of whole) idle name ≡ Some label
    → other_fault whole.top (Some label) name nothing_held ≡ []
    → walk_fault whole.top (names_of whole) (walk_from nothing_held) (name ∷ words) ≡ []
unfolding walk_fault walked
named_fault name label words known fine =
    let after : walked whole.top.rules (names_of whole) (walk_from nothing_held) name ≡ record
    (walk_from nothing_held) { stopped = Some (label, []) } = named_walk name label [] known in
    ap₂ or_else
    (ap (λ o. or_else (other_fault whole.top o name nothing_held)
    (step_fault whole.top 1 (subcommand_or_other whole.top.rules o idle 1 name nothing_held).0
    (subcommand_or_other whole.top.rules o idle 1 name nothing_held).1)) known ∙ ap (λ k. or_else k []) fine)
    (ap (λ v. walk_fault whole.top (names_of whole) v words) after ∙ stopped_fault whole.top (names_of whole)
    (walk_from nothing_held) (label, []) words)

-- the faults of the whole, by those of the program's own walk and where it ended
abbrev by_walk : Kinds → Walk → Kinds
by_walk k w = or_else k
    (or_else (entered_fault whole w.stopped)
    (or_else (settle_fault whole.top.rules whole.top.args_override_self w.held)
    (or_else (defaults_fault (settled whole.top.rules w.held).rows whole.top.rules)
    (check_fault whole.top (finished whole.top.rules w.held) (is_some (entered whole w.stopped))))))

passes_nil : (k : Kinds) → passes (or_else k []) ≡ passes k
passes_nil [] = refl
passes_nil (x ∷ xs) = refl

-- where clap finds no fault the command is read off its matches, and else there is none
abbrev pub IsExact : List Text → Type 0
IsExact words =
    (passes (fault_of app.app words) ≡ true → read_met (drop 4 words) (subcommand_of app.app words) ≡ form_of words)
    × (passes (fault_of app.app words) ≡ false → form_of words ≡ None)

abbrev known_as : Text → Option Shape
known_as name = find (λ s. answers_to name (label_of s)) whole.subs

-- the faults and the matches, by the subcommand that is entered
abbrev found_fault : List Text → Option Shape → Kinds
found_fault words o = or_else (option_map_or (λ s. level_fault s [] nothing_held words false []) o [])
    (check_fault whole.top [] (is_some (option_map (λ s. rows_at s words) o)))

abbrev found_command : List Text → Option Shape → Option Command
found_command words o = read_met (drop 3 words) (option_map (λ s. rows_at s words) o)

-- a name of a form
module _ (s : Shape) (name : Text) (words : List Text) (known : subcommand_met (names_of whole) idle name ≡ Some name)
    (fine : other_fault whole.top (Some name) name nothing_held ≡ []) (found : known_as name ≡ Some s)
    (plain : list_any begins_with_dash words ≡ false) (level : IsLevel s words (form_named name words)) where
  named_faults : passes (fault_of app.app (name ∷ words)) ≡ passes (fed_level s words)
  unfolding clap_on_literals
  named_faults =
      ap passes (ap₂ by_walk (named_fault name name words known fine) (named_walk name name words known))
      ∙ (ap (λ o. passes (found_fault words o)) found ∙
      (passes_nil (level_fault s [] nothing_held words false []) ∙ ap passes (level_plain s words plain)))

  named_read : read_met (drop 3 words) (subcommand_of app.app (name ∷ words)) ≡ read_at s words
  named_read =
      ap (λ (w : Walk). read_met (drop 3 words) (entered whole w.stopped)) (named_walk name name words known)
      ∙ (ap (found_command words) found ∙ ap (read_named (drop 3 words) s.name) (rows_plain s.rules words plain))

  named_exact : IsExact (name ∷ words)
  named_exact = (λ e. named_read ∙ level.0 (sym named_faults ∙ e), λ e. level.1 (sym named_faults ∙ e))

-- a name of no form
unknown_exact : (name : Text) (words : List Text) → begins_with_dash name ≡ false
    → subcommand_met (names_of whole) idle name ≡ None → form_named name words ≡ None → IsExact (name ∷ words)
unfolding walk_fault
unknown_exact name words plain unknown none =
    let fault : passes (fault_of app.app (name ∷ words)) ≡ false
    = ap (λ k. passes
    (by_walk (or_else k
    (walk_fault whole.top (names_of whole)
    (walked whole.top.rules (names_of whole) (walk_from nothing_held) name) words))
    (walk whole.top.rules (names_of whole) nothing_held (name ∷ words))))
    (turn_plain whole.top (names_of whole) (walk_from nothing_held) name plain refl refl unknown) in
    (λ e. absurd (true≢false (sym e ∙ fault)), λ e. none)

none_exact : IsExact []
unfolding clap_on_literals
none_exact = (no, λ e. refl)

trace_exact : (words : List Text) → list_any begins_with_dash words ≡ false → IsExact (codes "trace" ∷ words)
trace_exact words plain = named_exact (ready app.trace) (codes "trace") words refl refl refl plain (trace_level words)

compile_exact : (words : List Text) → list_any begins_with_dash words ≡ false → IsExact (codes "compile" ∷ words)
compile_exact words plain = named_exact (ready app.compile) (codes "compile") words refl refl refl plain
    (compile_level words)

replay_exact : (words : List Text) → list_any begins_with_dash words ≡ false → IsExact (codes "replay" ∷ words)
replay_exact words plain = named_exact (ready app.replay) (codes "replay") words refl refl refl plain
    (replay_level words)

sim_exact : (words : List Text) → list_any begins_with_dash words ≡ false → IsExact (codes "sim" ∷ words)
sim_exact words plain = named_exact (ready app.sim) (codes "sim") words refl refl refl plain (sim_level words)

net_exact : (words : List Text) → list_any begins_with_dash words ≡ false → IsExact (codes "net" ∷ words)
net_exact words plain = named_exact (ready app.net) (codes "net") words refl refl refl plain (net_level words)

stats_exact : (words : List Text) → list_any begins_with_dash words ≡ false → IsExact (codes "stats" ∷ words)
stats_exact words plain = named_exact (ready app.stats) (codes "stats") words refl refl refl plain (stats_level words)

board_exact : (words : List Text) → list_any begins_with_dash words ≡ false → length words ≤ usize_max
    → IsExact (codes "board" ∷ words)
board_exact words plain few = named_exact (ready app.board) (codes "board") words refl refl refl plain
    (board_level words few)

make_exact : (words : List Text) → list_any begins_with_dash words ≡ false → IsExact (codes "make" ∷ words)
make_exact words plain = named_exact (ready app.make) (codes "make") words refl refl refl plain (make_level words)

rules_exact : (words : List Text) → list_any begins_with_dash words ≡ false → IsExact (codes "rules" ∷ words)
rules_exact words plain = named_exact (ready app.rules) (codes "rules") words refl refl refl plain (rules_level words)

-- a name is this one, or what holds of the others holds of it
either : (this name : Text) (words : List Text) → IsExact (this ∷ words)
    → (bytes_eq this name ≡ false → IsExact (name ∷ words)) → IsExact (name ∷ words)
either this name words here others = elim (cases_Bool (bytes_eq this name)) [
  | inl e ↦ subst (λ t. IsExact (t ∷ words)) ((bytes_eq-Decides this name).0 e) here
  | inr e ↦ others e
]

each_name : (name : Text) (words : List Text) → begins_with_dash name ≡ false → list_any begins_with_dash words ≡ false
    → length words ≤ usize_max → IsExact (name ∷ words)
each_name name words first plain few =
    either (codes "trace") name words (trace_exact words plain) (λ e0.
    either (codes "compile") name words (compile_exact words plain) (λ e1.
    either (codes "replay") name words (replay_exact words plain) (λ e2.
    either (codes "sim") name words (sim_exact words plain) (λ e3.
    either (codes "net") name words (net_exact words plain) (λ e4.
    either (codes "stats") name words (stats_exact words plain) (λ e5.
    either (codes "board") name words (board_exact words plain few) (λ e6.
    either (codes "make") name words (make_exact words plain) (λ e7.
    either (codes "rules") name words (rules_exact words plain) (λ e8.
    unknown_exact name words first (rw (e0, e1, e2, e3, e4, e5, e6, e7, e8) refl)
    (rw (e0, e1, e2, e3, e4, e5, e6, e7, e8) refl))))))))))

pub exact : (words : List Text) → list_any begins_with_dash words ≡ false → length words ≤ usize_max → IsExact words
exact [] plain few = none_exact
exact (name ∷ words) plain few =
    let p = or_parts (begins_with_dash name) _ plain in
    each_name name words p.0 p.1 (omega arith)
