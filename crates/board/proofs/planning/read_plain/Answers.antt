use Rattle.std.proofs.Common.{string_bytes, map}
use Rattle.std.proofs.lemmas.Result.{err_from_is_err_and}
use Rattle.board.proofs.Plans.{plain_broken}
use Rattle.board.proofs.planning.read_plain.Goals as goal

pub returns-in_err-link-clause-err : goal.returns-in_err-link-clause-err
returns-in_err-link-clause-err g c =
    let p = err_from_is_err_and c.from_residual.result c.from_residual.ensures.1 in
    rw (p.1, p.2) (plain_broken (record {
      clocks = 0;
      parts = map (λ q. string_bytes q.name) c.args.parts.now;
      pads = c.args.pads.now;
    }) c.args.plan.now c.args.word.now c.in_err-link.field-0.0
    (rw c.as_slice.ensures at c.in_err-link.ensures.err))
