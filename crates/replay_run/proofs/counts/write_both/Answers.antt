use Rattle.std.proofs.lemmas.Result.{err_from_is_err_and}
use Rattle.outside.proofs.Written.{written_then}
use Rattle.outside.proofs.CutTexts.{cut_at}
use Rattle.replay_run.proofs.Causes.{cause_behind, cause_passed}
use Rattle.replay_run.proofs.counts.write_both.Goals as goal

pub returns-in_err-write_all-clause-taken : goal.returns-in_err-write_all-clause-taken
returns-in_err-write_all-clause-taken g c =
    let r = c.from_residual.result in
    let q = err_from_is_err_and r c.from_residual.ensures.1 in
    cut_at _ _ c.args.first.now c.args.then.now c.in_err-write_all.field-0.0 q.0 r q.1
    c.in_err-write_all.ensures.taken

pub returns-in_err-write_all-clause-cause : goal.returns-in_err-write_all-clause-cause
returns-in_err-write_all-clause-cause g c =
    let r = c.from_residual.result in
    let q = err_from_is_err_and r c.from_residual.ensures.1 in
    cause_passed c.in_err-write_all.field-0.0 q.0 _ _ r q.1 c.in_err-write_all.ensures.cause

pub returns-clause-taken : goal.returns-clause-taken
returns-clause-taken g c =
    written_then c.in_ok-write_all.field-0 _ _ _ c.args.first.now c.args.then.now c.write_all-2.result
    c.in_ok-write_all.ensures.taken c.write_all-2.ensures.taken

pub returns-clause-cause : goal.returns-clause-cause
returns-clause-cause g c =
    cause_behind c.in_ok-write_all.field-0 _ _ _ c.write_all-2.result c.in_ok-write_all.ensures.cause
    c.write_all-2.ensures.cause
