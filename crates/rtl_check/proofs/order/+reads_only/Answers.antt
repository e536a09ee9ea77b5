use Rattle.std.proofs.Common.{subst, arith}
use Rattle.std.specs.Prelude.{IsTrue}
use Rattle.std.proofs.lemmas.Bool.{false≢true}
use Rattle.rtl_check.proofs.ReadBy.{operand_reads_only, operands_before, reads_only_by}
use Rattle.rtl_check.proofs.order.+reads_only.Goals as goal

pub reads_only-requires : goal.reads_only-requires
reads_only-requires t c =
    let before =
    operands_before c.args.rtl.now c.args.expr c.in-Some.expr.now c.operands-arg-items.result.now
    (c.requires c.args.expr c.in-Some.expr.now c.in-Some.ensures) c.operands-arg-items.ensures c.loop-arg.arg-index
    c.loop-arg-test.true in
    (omega (arith, before), c.requires)

pub returns-then-not-reads_only : goal.returns-then-not-reads_only
returns-then-not-reads_only t c = (
  (λ h. absurd (false≢true h)),
  (λ only. subst IsTrue c.if-not-reads_only.true (c.reads_only.ensures.1
      (operand_reads_only c.args.rtl.now c.args.known.now c.args.expr c.in-Some.expr.now c.in-Some.ensures
      c.operands-arg-items.result.now c.operands-arg-items.ensures c.loop-arg.arg-index c.loop-arg-test.true only))),
)

pub returns : goal.returns
returns t c =
    reads_only_by c.args.rtl.now c.args.known.now c.args.expr c.in-Some.expr.now c.in-Some.ensures
    c.operands-arg-items.result.now c.operands-arg-items.ensures c.loop-arg.arg-index c.loop-arg-test.false
    c.loop-arg.invariant c.is_known.result c.as_slice.result.now c.as_slice.ensures c.is_known.ensures
