use Rattle.std.proofs.Common.{ℕ, List, subst}
use Rattle.std.proofs.lemmas.Result.{err_from_is_err_and}
use Rattle.outside.specs.declared.calls.Failed.{Failed}
use Rattle.mp_base.specs.declared.value.Trit.TheVariants.{One, X}
use Rattle.outside.specs.Outside.{Gains}
use Rattle.outside.specs.Piece.{TakesAll}
use Rattle.outside.proofs.Written.{written_then}
use Rattle.outside.proofs.CutTexts.{cut_at}
use Rattle.switch_net.specs.Values.{value_at}
use Rattle.switch_net.specs.Sizes.{nodes_with}
use Rattle.mask_net.specs.SizeLine.{counts_text, size_text}
use Rattle.replay_run.proofs.Causes.{cause_behind, cause_passed}
use Rattle.replay_run.proofs.Counting.{counts_are}
use Rattle.replay_run.proofs.counts.write_last_line.Goals as goal

pub returns-in_err-write_all-clause-taken : goal.returns-in_err-write_all-clause-taken
returns-in_err-write_all-clause-taken g c net is sized =
    let v = value_at c.args.values.now in
    let counts : List ℕ = counts_text (nodes_with net v One) (nodes_with net v X) in
    let r = c.from_residual.result in
    let q = err_from_is_err_and r c.from_residual.ensures.1 in
    cut_at _ _ (size_text net) counts c.in_err-write_all.field-0.0 q.0 r q.1 (rw is at c.in_err-write_all.ensures.taken)

pub returns-clause-taken : goal.returns-clause-taken
returns-clause-taken g c net is sized =
    let v = value_at c.args.values.now in
    let counts : List ℕ = counts_text (nodes_with net v One) (nodes_with net v X) in
    let r = c.write_counts.result in
    let P : List ℕ → Type 0 = λ t. TakesAll {T = Unit {0}} {E = Failed} Gains (g.O.Sink.held c.write_all.new.out)
    (g.O.Sink.held c.write_counts.new.out) t r in
    written_then c.in_ok-write_all.field-0 _ _ _ (size_text net) counts r (rw is at c.in_ok-write_all.ensures.taken)
    (subst P (counts_are net c.args.values.now sized) c.write_counts.ensures.taken)

pub returns-in_err-write_all-clause-cause : goal.returns-in_err-write_all-clause-cause
returns-in_err-write_all-clause-cause g c =
    let r = c.from_residual.result in
    let q = err_from_is_err_and r c.from_residual.ensures.1 in
    cause_passed c.in_err-write_all.field-0.0 q.0 _ _ r q.1 c.in_err-write_all.ensures.cause

pub returns-clause-cause : goal.returns-clause-cause
returns-clause-cause g c =
    cause_behind c.in_ok-write_all.field-0 _ _ _ c.write_counts.result c.in_ok-write_all.ensures.cause
    c.write_counts.ensures.cause
