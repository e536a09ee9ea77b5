use Rattle.std.proofs.Common.{arith}
use Rattle.region_sweep.proofs.Rowwise.{answer_run}
use Rattle.region_sweep.proofs.rows.number_at.Goals as goal

pub returns-in-Some : goal.returns-in-Some
returns-in-Some c = λ colour row p front e f.
    let is = c.in-Some.ensures.some in
    let a = is.1 in
    let b = is.2 in
    answer_run colour row c.strip_at.result c.args.strips.now c.args.kept.now p c.in-Some.run' front is.0 (omega arith)
    (omega arith) e
    c.strip_at.ensures
