-- What clap's walk makes of words that don't begin with a dash, at a subcommand whose arguments are words by place.
use Rattle.std.proofs.Common.{◌≡◌, ◌∙◌, ◌==◌, ℕ, Bool, true, false, refl, sym, ap, ap₂, List, [], ◌∷◌, ◌++◌, cond}
use Rattle.std.proofs.Common.{Option, Some, None, true≢false, append_assoc, append-nil}
use Rattle.std.specs.List.{fold, list_any}
use Rattle.clap.specs.Lexer.{short_of}
use Rattle.clap.specs.Kinds.{Kinds, or_else}
use Rattle.clap.specs.Walk.{Held, Names, Rule, Step, Text, Waiting, idle, option, positional, Walk, value, after_step}
use Rattle.clap.specs.Walk.{arg_by_index, finished, nothing_held, settled, subcommand_met, subcommand_or_other}
use Rattle.clap.specs.Walk.{to_positional, walk_from, walked, walked_from, word_met, is_multiple, rows_after}
use Rattle.clap.specs.Simple.{Shape}
use Rattle.clap.specs.Faults.{check_fault, defaults_fault, level_fault, other_fault, settle_fault, step_fault}
use Rattle.clap.specs.Faults.{turn_fault, walk_fault, word_fault}
use Rattle.std.proofs.lemmas.Bool.{or_parts}
use Rattle.command_line.specs.Command.{begins_with_dash}

-- nothing waits for the value of an option
abbrev pub takes_next : Waiting → Bool
takes_next idle = true
takes_next positional = true
takes_next (option id) = false

pub no_short : (b : ℕ) (bs : List ℕ) → (b == 45) ≡ false → short_of (b ∷ bs) ≡ None
no_short b bs plain = rw plain refl

-- such a word is a value
plain_other : (c : List Rule) (waiting : Waiting) (position : ℕ) (word : Text) (h : Held)
    → begins_with_dash word ≡ false → takes_next waiting ≡ true
    → subcommand_or_other c None waiting position word h ≡ (h, value)
plain_other c idle position [] h plain ready = refl
plain_other c positional position [] h plain ready = refl
plain_other c idle position (b ∷ bs) h plain ready = rw (plain, no_short b bs plain) refl
plain_other c positional position (b ∷ bs) h plain ready = rw (plain, no_short b bs plain) refl
plain_other c (option id) position word h plain ready = absurd (true≢false (sym ready))

plain_no_fault : (s : Shape) (word : Text) (h : Held) → begins_with_dash word ≡ false → other_fault s None word h ≡ []
plain_no_fault s [] h plain = refl
plain_no_fault s (b ∷ bs) h plain = rw (plain, no_short b bs plain) refl

pub no_subcommand : (waiting : Waiting) (word : Text) → subcommand_met [] waiting word ≡ None
no_subcommand idle word = refl
no_subcommand positional word = refl
no_subcommand (option id) word = refl

pub plain_met : (c : List Rule) (names : Names) (trailing : Bool) (waiting : Waiting) (position : ℕ) (word : Text)
    (h : Held)
    → begins_with_dash word ≡ false
    → takes_next waiting ≡ true → subcommand_met names waiting word ≡ None
    → word_met c names trailing waiting position word h ≡ (h, value)
plain_met c names true waiting position word h plain ready unknown = refl
plain_met c names false waiting position word h plain ready unknown =
    ap (λ o. subcommand_or_other c o waiting position word h) unknown
    ∙ plain_other c waiting position word h plain ready

plain_word_fault : (s : Shape) (names : Names) (trailing : Bool) (waiting : Waiting) (word : Text) (h : Held)
    → begins_with_dash word ≡ false
    → subcommand_met names waiting word ≡ None → word_fault s names trailing waiting word h ≡ []
plain_word_fault s names true waiting word h plain unknown = refl
plain_word_fault s names false waiting word h plain unknown = ap (λ o. other_fault s o word h) unknown
    ∙ plain_no_fault s word h plain

-- the word goes to the argument of its place
abbrev pub fed : List Rule → Walk → Text → Walk
fed c w word = to_positional c (arg_by_index c w.position) word w w.held

pub walked_plain : (c : List Rule) (names : Names) (w : Walk) (word : Text) → begins_with_dash word ≡ false
    → w.stopped ≡ None → takes_next w.waiting ≡ true
    → subcommand_met names w.waiting word ≡ None → walked c names w word ≡ fed c w word
unfolding walked
walked_plain c names w word plain going ready unknown =
    ap (λ o. walked_from c names o w word) going
    ∙ ap (λ (m : Held × Step). after_step c word w m.0 m.1)
    (plain_met c names w.is_trailing w.waiting w.position word w.held plain ready unknown)

pub turn_plain : (s : Shape) (names : Names) (w : Walk) (word : Text) → begins_with_dash word ≡ false → w.stopped ≡ None
    → takes_next w.waiting ≡ true
    → subcommand_met names w.waiting word ≡ None → turn_fault s names w word ≡ step_fault s w.position w.held value
turn_plain s names w word plain going ready unknown =
    ap (λ o. turn_fault s names (record w { stopped = o }) word) going
    ∙ ap₂ or_else (plain_word_fault s names w.is_trailing w.waiting word w.held plain unknown)
    (ap (λ (m : Held × Step). step_fault s w.position m.0 m.1)
    (plain_met s.rules names w.is_trailing w.waiting w.position word w.held plain ready unknown))

pub fed_goes : (c : List Rule) (a : Option Rule) (w : Walk) (word : Text) → w.stopped ≡ None
    → (to_positional c a word w w.held).stopped ≡ None
fed_goes c None w word going = going
fed_goes c (Some a) w word going = refl

pub fed_waits : (c : List Rule) (a : Option Rule) (w : Walk) (word : Text) → takes_next w.waiting ≡ true
    → takes_next (to_positional c a word w w.held).waiting ≡ true
fed_waits c None w word ready = ready
fed_waits c (Some a) w word ready = go (is_multiple a)
  where
    go : (b : Bool) → takes_next (cond b positional idle) ≡ true
    go true = refl
    go false = refl

-- so the walk over such words only feeds the arguments
pub walk_plain : (c : List Rule) (w : Walk) (words : List Text) → list_any begins_with_dash words ≡ false
    → w.stopped ≡ None → takes_next w.waiting ≡ true
    → fold (walked c []) w words ≡ fold (fed c) w words
walk_plain c w [] plain going ready = refl
walk_plain c w (word ∷ rest) plain going ready =
    let p = or_parts (begins_with_dash word) _ plain in
    ap (λ v. fold (walked c []) v rest) (walked_plain c [] w word p.0 going ready (no_subcommand w.waiting word))
    ∙ walk_plain c (fed c w word) rest p.1 (fed_goes c (arg_by_index c w.position) w word going)
    (fed_waits c (arg_by_index c w.position) w word ready)

abbrev pub fed_fault : Shape → Walk → List Text → Kinds
fed_fault s w [] = []
fed_fault s w (word ∷ rest) = or_else (step_fault s w.position w.held value) (fed_fault s (fed s.rules w word) rest)

pub fault_plain : (s : Shape) (w : Walk) (words : List Text) → list_any begins_with_dash words ≡ false
    → w.stopped ≡ None → takes_next w.waiting ≡ true
    → walk_fault s [] w words ≡ fed_fault s w words
unfolding walk_fault
fault_plain s w [] plain going ready = refl
fault_plain s w (word ∷ rest) plain going ready =
    let p = or_parts (begins_with_dash word) _ plain in
    ap₂ or_else (turn_plain s [] w word p.0 going ready (no_subcommand w.waiting word))
    (ap (λ v. walk_fault s [] v rest) (walked_plain s.rules [] w word p.0 going ready (no_subcommand w.waiting word))
    ∙ fault_plain s (fed s.rules w word) rest p.1 (fed_goes s.rules (arg_by_index s.rules w.position) w word going)
    (fed_waits s.rules (arg_by_index s.rules w.position) w word ready))

-- what a level's checks say of the walk's end
abbrev pub late_fault : Shape → Held → Kinds
late_fault s end = or_else (defaults_fault (settled s.rules end).rows s.rules)
    (check_fault s (finished s.rules end) false)

abbrev pub end_fault : Shape → Held → Kinds
end_fault s end = or_else (settle_fault s.rules s.args_override_self end) (late_fault s end)

abbrev pub fed_end : List Rule → List Text → Held
fed_end c words = (fold (fed c) (walk_from nothing_held) words).held

abbrev pub fed_level : Shape → List Text → Kinds
fed_level s words = or_else (fed_fault s (walk_from nothing_held) words) (end_fault s (fed_end s.rules words))

-- a subcommand's faults and matches at such words
pub level_plain : (s : Shape) (words : List Text) → list_any begins_with_dash words ≡ false
    → level_fault s [] nothing_held words false [] ≡ fed_level s words
level_plain s words plain =
    ap₂ (λ k (w : Walk). or_else k (end_fault s w.held)) (fault_plain s (walk_from nothing_held) words plain refl refl)
    (walk_plain s.rules (walk_from nothing_held) words plain refl refl)

pub rows_plain : (c : List Rule) (words : List Text) → list_any begins_with_dash words ≡ false
    → rows_after c [] words ≡ finished c (fed_end c words)
rows_plain c words plain = ap (λ (w : Walk). finished c w.held)
    (walk_plain c (walk_from nothing_held) words plain refl refl)

-- ---- the words after a subcommand's name

pub walk_stopped : (c : List Rule) (names : Names) (w : Walk) (p : Text × List Text) (words : List Text)
    → fold (walked c names) (record w { stopped = Some p }) words ≡ record w { stopped = Some (p.0, p.1 ++ words) }
unfolding walked
walk_stopped c names w p [] = ap (λ ws. record w { stopped = Some (p.0, ws) }) (sym (append-nil p.1))
walk_stopped c names w p (x ∷ xs) = walk_stopped c names w (p.0, p.1 ++ x ∷ []) xs ∙ ap
    (λ ws. record w { stopped = Some (p.0, ws) }) (append_assoc p.1 (x ∷ []) xs)
