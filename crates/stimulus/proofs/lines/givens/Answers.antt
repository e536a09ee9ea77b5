use Rattle.std.proofs.Common.{◌≡◌, ℕ, ◌+◌, List, [], ◌∷◌, ◌++◌, take, sym, ◌∙◌, ap, subst}
use Rattle.std.proofs.lemmas.Result.{err_from_is_err_and}
use Rattle.std.proofs.lemmas.List.{take_more}
use Rattle.stimulus_lines.specs.declared.form.Assignment.{Assignment}
use Rattle.stimulus.specs.declared.given.Given.{Given}
use Rattle.stimulus.specs.Rules.{IsGiven, IsMisfit, AreGiven, FirstMisfit, IsFault}
use Rattle.stimulus.proofs.Adding.{given_push, first_misfit, fault_at}
use Rattle.stimulus.proofs.lines.givens.Goals as goal

pub returns-in_err-given-clause-err : goal.returns-in_err-given-clause-err
returns-in_err-given-clause-err c =
    let p = err_from_is_err_and c.from_residual.result c.from_residual.ensures.1 in
    let bad : IsFault c.in_err-given.field-0.0
    (λ k at. IsMisfit c.args.inputs.now c.word-item.result k × (at ≡ c.word-item.result.at)) =
    c.in_err-given.ensures.err in
    let Q : Assignment → Type 0 = λ w. (k at : ℕ) → IsMisfit c.args.inputs.now w k × (at ≡ w.at)
    → FirstMisfit c.args.inputs.now c.args.words.now k at in
    let up : Q c.word-item.result = subst Q (sym c.word-item.is)
    (λ k at. first_misfit c.args.inputs.now c.args.words.now c.loop-word.all c.loop-word.word-index c.word-item.result
    k at c.loop-word-test.true c.loop-word.invariant) in
    rw (p.1, p.2) (fault_at c.in_err-given.field-0.0 _ _ up bad)

pub loop-word-preserved : goal.loop-word-preserved
loop-word-preserved c =
    let one : IsGiven c.args.inputs.now c.word-item.result c.in_ok-given.field-0 = c.in_ok-given.ensures.ok in
    let pushed : c.push.new.self ≡ c.loop-word.all ++ c.in_ok-given.field-0 ∷ [] = c.in_ok-push.ensures.ok in
    let front : take (c.loop-word.word-index + 1) c.args.words.now ≡ take c.loop-word.word-index c.args.words.now
    ++ c.word-item.result ∷ [] =
    take_more c.args.words.now c.loop-word.word-index c.word-item.result c.loop-word-test.true
    ∙ ap (λ w. take c.loop-word.word-index c.args.words.now ++ w ∷ []) (sym c.word-item.is) in
    let Q : List Assignment → Type 0 = λ ws. AreGiven c.args.inputs.now ws c.push.new.self in
    let R : List Given
    → Type 0 = λ gs. AreGiven c.args.inputs.now
    (take c.loop-word.word-index c.args.words.now ++ c.word-item.result ∷ []) gs in
    subst Q (sym front)
    (subst R (sym pushed)
    (given_push c.args.inputs.now
    (take c.loop-word.word-index c.args.words.now) c.word-item.result c.loop-word.all c.in_ok-given.field-0
    c.loop-word.invariant one))
