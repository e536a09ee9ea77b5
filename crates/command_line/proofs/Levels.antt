-- Each form's own level: where clap finds no fault the command is read off its matches, and else there is none.
use Rattle.std.proofs.Common.{◌≡◌, Bool, true, false, refl, sym, List, [], ◌∷◌, Option, None, drop, true≢false}
use Rattle.clap.specs.Kinds.{Kinds}
use Rattle.clap.specs.Simple.{Shape, built_leaf, inherited}
use Rattle.clap.specs.Walk.{Text, finished}
use Rattle.clap.proofs.OnLiterals.{clap_on_literals}
use Rattle.command_line.specs.Command.{Command, Trace, Compile, Replay, Sim, Net, Stats, Rules, make_of, one, two, three}
use Rattle.command_line.specs.App as app
use Rattle.command_line.specs.Read.{read_named}
use Rattle.command_line.proofs.Plain.{fed_end, fed_level}

-- there is no fault
abbrev pub passes : Kinds → Bool
passes [] = true
passes (k ∷ ks) = false

-- a form as clap builds it
abbrev pub ready : Shape → Shape
ready s = built_leaf (inherited app.top s)

-- what is read of the form's matches at such words, of which those behind the third are links
abbrev pub read_at : Shape → List Text → Option Command
read_at s words = read_named (drop 3 words) s.name (finished s.rules (fed_end s.rules words))

-- where there is no fault the command is the one that is read, and else there is none
abbrev pub IsLevel : Shape → List Text → Option Command → Type 0
IsLevel s words command = (passes (fed_level s words) ≡ true → read_at s words ≡ command)
    × (passes (fed_level s words) ≡ false → command ≡ None)

pub no : {P : Type 0} → false ≡ true → P
no e = absurd (true≢false (sym e))

pub not_so : {P : Type 0} → true ≡ false → P
not_so e = absurd (true≢false e)

pub trace_level : (words : List Text) → IsLevel (ready app.trace) words (two Trace words)
unfolding clap_on_literals
trace_level [] = (no, λ e. refl)
trace_level (a ∷ []) = (no, λ e. refl)
trace_level (a ∷ b ∷ []) = (λ e. refl, not_so)
trace_level (a ∷ b ∷ c ∷ rest) = (no, λ e. refl)

pub compile_level : (words : List Text) → IsLevel (ready app.compile) words (two Compile words)
unfolding clap_on_literals
compile_level [] = (no, λ e. refl)
compile_level (a ∷ []) = (no, λ e. refl)
compile_level (a ∷ b ∷ []) = (λ e. refl, not_so)
compile_level (a ∷ b ∷ c ∷ rest) = (no, λ e. refl)

pub replay_level : (words : List Text) → IsLevel (ready app.replay) words (three Replay words)
unfolding clap_on_literals
replay_level [] = (no, λ e. refl)
replay_level (a ∷ []) = (no, λ e. refl)
replay_level (a ∷ b ∷ []) = (no, λ e. refl)
replay_level (a ∷ b ∷ c ∷ []) = (λ e. refl, not_so)
replay_level (a ∷ b ∷ c ∷ d ∷ rest) = (no, λ e. refl)

pub sim_level : (words : List Text) → IsLevel (ready app.sim) words (two Sim words)
unfolding clap_on_literals
sim_level [] = (no, λ e. refl)
sim_level (a ∷ []) = (no, λ e. refl)
sim_level (a ∷ b ∷ []) = (λ e. refl, not_so)
sim_level (a ∷ b ∷ c ∷ rest) = (no, λ e. refl)

pub net_level : (words : List Text) → IsLevel (ready app.net) words (one Net words)
unfolding clap_on_literals
net_level [] = (no, λ e. refl)
net_level (a ∷ []) = (λ e. refl, not_so)
net_level (a ∷ b ∷ rest) = (no, λ e. refl)

pub stats_level : (words : List Text) → IsLevel (ready app.stats) words (one Stats words)
unfolding clap_on_literals
stats_level [] = (no, λ e. refl)
stats_level (a ∷ []) = (λ e. refl, not_so)
stats_level (a ∷ b ∷ rest) = (no, λ e. refl)

pub rules_level : (words : List Text) → IsLevel (ready app.rules) words (one Rules words)
unfolding clap_on_literals
rules_level [] = (no, λ e. refl)
rules_level (a ∷ []) = (λ e. refl, not_so)
rules_level (a ∷ b ∷ rest) = (no, λ e. refl)

pub make_level : (words : List Text) → IsLevel (ready app.make) words (make_of words)
unfolding clap_on_literals
make_level [] = (no, λ e. refl)
make_level (a ∷ []) = (no, λ e. refl)
make_level (a ∷ b ∷ []) = (λ e. refl, not_so)
make_level (a ∷ b ∷ c ∷ rest) = (no, λ e. refl)
