use Rattle.std.proofs.Common.{◌≡◌, ◌+◌, ◌<◌, ℕ, List, [], ◌∷◌, ◌++◌, Bor, ap, ◌∙◌, arith, sym, subst, map, take}
use Rattle.std.proofs.Common.{get_or, length}
use Rattle.std.proofs.lemmas.List.{map_more, map-append, take_all}
use Rattle.clap.specs.Words.{Rule, Shape, Text}
use Rattle.clap.specs.Simple.{new_shape}
use Rattle.command_line.specs.App as spec
use Rattle.command_line.proofs.Settings.{with_word}
use Rattle.command_line.proofs.app.form.Goals as goal

-- the words so far and the next one
abbrev so_far : Text → List (Bor Text) → ℕ → Shape
so_far name ids i = spec.form name (map (λ id. id.now) (take i ids))

one_more : (name : Text) (ids : List (Bor Text)) (i : ℕ) (d : Bor Text) → i < length ids
    → record (so_far name ids i) { rules = (so_far name ids i).rules ++ spec.word (get_or ids i d).now ∷ [] }
    ≡ so_far name ids (i + 1)
one_more name ids i d lt =
    ap (λ (rules : List Rule). record (new_shape name) { rules = rules })
    (sym (ap (map spec.word) (map_more (λ (id : Bor Text). id.now) ids i d lt) ∙ map-append spec.word
    (map (λ (id : Bor Text). id.now) (take i ids)) ((get_or ids i d).now ∷ [])))

pub loop-id-init : goal.loop-id-init
loop-id-init c = record { app = c.new-form.ensures.app; local = c.new-form.ensures.local }

pub loop-id-preserved : goal.loop-id-preserved
loop-id-preserved c =
    subst (λ (shape : Shape). spec.IsForm shape c.in_ok-form.form)
    (one_more c.args.name.now c.args.ids.now c.loop-id.id-index _ (omega arith))
    (with_word (so_far c.args.name.now c.args.ids.now c.loop-id.id-index) _ c.loop-id.form c.word.result
    c.loop-id.invariant c.word.ensures.rule c.word.ensures.local c.in_ok-form.form c.in_ok-form.ensures)

pub returns : goal.returns
returns c =
    subst (λ (ids : List (Bor Text)). spec.IsForm (spec.form c.args.name.now (map (λ id. id.now) ids)) c.loop-id.form)
    (take_all c.loop-id.id-index c.args.ids.now c.loop-id-test.false) c.loop-id.invariant
