use Rattle.std.proofs.Common.{ℕ, List, [], ◌∷◌, ◌++◌, subst}
use Rattle.std.specs.Prelude.{codes, count_by}
use Rattle.std.specs.Fmt.{decimal}
use Rattle.std.proofs.lemmas.Result.{err_from_is_err_and}
use Rattle.outside.specs.declared.calls.Failed.{Failed}
use Rattle.mp_base.specs.declared.value.Trit.TheVariants.{One, X}
use Rattle.outside.specs.Outside.{Gains}
use Rattle.outside.specs.Piece.{TakesAll}
use Rattle.outside.proofs.Written.{written_then}
use Rattle.outside.proofs.CutTexts.{cut_at}
use Rattle.switch_net.specs.Sizes.{same_value}
use Rattle.replay_run.proofs.Causes.{cause_behind, cause_passed}
use Rattle.replay_run.proofs.Counting.{regrouped}
use Rattle.replay_run.proofs.counts.write_counts.Goals as goal

pub returns-in_err-write_number-clause-taken : goal.returns-in_err-write_number-clause-taken
returns-in_err-write_number-clause-taken g c =
    let first : List ℕ = codes " ones " ++ decimal (count_by (same_value One) c.args.values.now) in
    let x : List ℕ = decimal (count_by (same_value X) c.args.values.now) in
    let r = c.from_residual.result in
    let q = err_from_is_err_and r c.from_residual.ensures.1 in
    let P : List ℕ → Type 0 = λ t. TakesAll {T = Unit {0}} {E = Failed} Gains (g.O.Sink.held c.args.out.now)
    (g.O.Sink.held c.write_number.new.out) t r in
    subst P (regrouped first (codes " unknown ") x (10 ∷ []))
    (cut_at _ _ first (codes " unknown " ++ x ++ 10 ∷ []) c.in_err-write_number.field-0.0 q.0 r q.1
    (rw c.count.ensures at c.in_err-write_number.ensures.taken))

pub returns-in_err-write_number-clause-cause : goal.returns-in_err-write_number-clause-cause
returns-in_err-write_number-clause-cause g c =
    let r = c.from_residual.result in
    let q = err_from_is_err_and r c.from_residual.ensures.1 in
    cause_passed c.in_err-write_number.field-0.0 q.0 _ _ r q.1 c.in_err-write_number.ensures.cause

pub returns-clause-taken : goal.returns-clause-taken
returns-clause-taken g c =
    let first : List ℕ = codes " ones " ++ decimal (count_by (same_value One) c.args.values.now) in
    let x : List ℕ = decimal (count_by (same_value X) c.args.values.now) in
    let r = c.write_unknown.result in
    let P : List ℕ → Type 0 = λ t. TakesAll {T = Unit {0}} {E = Failed} Gains (g.O.Sink.held c.args.out.now)
    (g.O.Sink.held c.write_unknown.new.out) t r in
    subst P (regrouped first (codes " unknown ") x (10 ∷ []))
    (written_then c.in_ok-write_number.field-0 _ _ _ first (codes " unknown " ++ x ++ 10 ∷ []) r
    (rw c.count.ensures at c.in_ok-write_number.ensures.taken) c.write_unknown.ensures.taken)

pub returns-clause-cause : goal.returns-clause-cause
returns-clause-cause g c =
    cause_behind c.in_ok-write_number.field-0 _ _ _ c.write_unknown.result c.in_ok-write_number.ensures.cause
    c.write_unknown.ensures.cause
