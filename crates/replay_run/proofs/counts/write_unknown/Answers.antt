use Rattle.std.proofs.Common.{ℕ, List, [], ◌∷◌, ◌++◌}
use Rattle.std.specs.Prelude.{codes, count_by}
use Rattle.std.specs.Fmt.{decimal}
use Rattle.std.proofs.lemmas.Result.{err_from_is_err_and}
use Rattle.mp_base.specs.declared.value.Trit.TheVariants.{X}
use Rattle.outside.proofs.Written.{written_then}
use Rattle.outside.proofs.CutTexts.{cut_at}
use Rattle.switch_net.specs.Sizes.{same_value}
use Rattle.replay_run.proofs.Causes.{cause_behind, cause_passed}
use Rattle.replay_run.proofs.counts.write_unknown.Goals as goal

pub returns-in_err-write_number-clause-taken : goal.returns-in_err-write_number-clause-taken
returns-in_err-write_number-clause-taken g c =
    let text : List ℕ = codes " unknown " ++ decimal (count_by (same_value X) c.args.values.now) in
    let r = c.from_residual.result in
    let q = err_from_is_err_and r c.from_residual.ensures.1 in
    cut_at _ _ text (10 ∷ []) c.in_err-write_number.field-0.0 q.0 r q.1
    (rw c.count.ensures at c.in_err-write_number.ensures.taken)

pub returns-in_err-write_number-clause-cause : goal.returns-in_err-write_number-clause-cause
returns-in_err-write_number-clause-cause g c =
    let r = c.from_residual.result in
    let q = err_from_is_err_and r c.from_residual.ensures.1 in
    cause_passed c.in_err-write_number.field-0.0 q.0 _ _ r q.1 c.in_err-write_number.ensures.cause

pub returns-clause-taken : goal.returns-clause-taken
returns-clause-taken g c =
    let text : List ℕ = codes " unknown " ++ decimal (count_by (same_value X) c.args.values.now) in
    written_then c.in_ok-write_number.field-0 _ _ _ text (10 ∷ []) c.write_all.result
    (rw c.count.ensures at c.in_ok-write_number.ensures.taken) c.write_all.ensures.taken

pub returns-clause-cause : goal.returns-clause-cause
returns-clause-cause g c =
    cause_behind c.in_ok-write_number.field-0 _ _ _ c.write_all.result c.in_ok-write_number.ensures.cause
    c.write_all.ensures.cause
