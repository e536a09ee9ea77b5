use Rattle.std.proofs.Common.{◌≡◌, ◌+◌, List, [], ◌∷◌, ◌++◌, take, sym, ◌∙◌, ap, subst}
use Rattle.std.specs.Prelude.{Option, MatchOption}
use Rattle.std.proofs.lemmas.List.{take_more}
use Rattle.stimulus_lines.specs.declared.piece.Piece.{Piece}
use Rattle.stimulus_lines.specs.declared.form.Assignment.{Assignment}
use Rattle.stimulus_lines.specs.Forms.{IsAssignment, AreAssignments}
use Rattle.stimulus_lines.proofs.Numbers.{assignments_push, assignments_at}
use Rattle.stimulus_lines.proofs.form.read_assignments.Goals as goal

pub returns-in_default : goal.returns-in_default
returns-in_default c = λ xs h.
    let one = assignments_at c.args.words.now xs c.loop-word.word-index c.word-item.result h c.loop-word-test.true in
    let P : Option Assignment
    → Type 0 = λ found. MatchOption found ((a : Assignment) → IsAssignment c.word-item.result a → ⊥)
    (IsAssignment c.word-item.result) in
    let none : P c.read_assignment.result = c.read_assignment.ensures in
    let Q : Piece → Type 0 = λ w. IsAssignment w one.0 in
    subst P c.in_default.is none one.0 (subst Q (sym c.word-item.is) one.1)

pub loop-word-preserved : goal.loop-word-preserved
loop-word-preserved c =
    let P : Option Assignment
    → Type 0 = λ found. MatchOption found ((a : Assignment) → IsAssignment c.word-item.result a → ⊥)
    (IsAssignment c.word-item.result) in
    let found : P c.read_assignment.result = c.read_assignment.ensures in
    let here : IsAssignment c.word-item.result c.in-Some.one = subst P c.in-Some.is found in
    let pushed : c.push.new.self ≡ c.loop-word.all ++ c.in-Some.one ∷ [] = c.in_ok-push.ensures.ok in
    let front : take (c.loop-word.word-index + 1) c.args.words.now ≡ take c.loop-word.word-index c.args.words.now
    ++ c.word-item.result ∷ [] =
    take_more c.args.words.now c.loop-word.word-index c.word-item.result c.loop-word-test.true
    ∙ ap (λ w. take c.loop-word.word-index c.args.words.now ++ w ∷ []) (sym c.word-item.is) in
    let Q : List Piece → Type 0 = λ ws. AreAssignments ws c.push.new.self in
    let R : List Assignment
    → Type 0 = λ xs. AreAssignments (take c.loop-word.word-index c.args.words.now ++ c.word-item.result ∷ []) xs in
    subst Q (sym front)
    (subst R (sym pushed)
    (assignments_push
    (take c.loop-word.word-index c.args.words.now) c.word-item.result c.loop-word.all c.in-Some.one
    c.loop-word.invariant here))
