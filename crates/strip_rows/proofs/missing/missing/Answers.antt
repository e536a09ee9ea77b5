use Rattle.std.proofs.Common.{arith, ◌≡◌, length, subst}
use Rattle.strip_rows.proofs.Merging.{missing_more, missing_all, IsMissingUpto}
use Rattle.strip_rows.proofs.missing.missing.Goals as goal

-- src/missing.rt
pub loop-run-preserved : goal.loop-run-preserved
loop-run-preserved c =
    missing_more c.args.runs.now c.args.among.now c.loop-run.run-index c.loop-run.place c.seek-place.result
    c.loop-run.out.items
    c.add_if_missing.new.out.items c.requires.runs c.loop-run-test.true c.loop-run.invariant
    c.seek-place.ensures.within c.seek-place.ensures.behind
    c.in_ok-add_if_missing.ensures

-- src/missing.rt
pub returns : goal.returns
returns c =
    let e : c.loop-run.run-index ≡ length c.args.runs.now = omega arith in
    missing_all c.args.runs.now c.args.among.now c.loop-run.place c.loop-run.out.items
    (subst (λ n. IsMissingUpto c.args.runs.now c.args.among.now n c.loop-run.place c.loop-run.out.items) e
    c.loop-run.invariant)
