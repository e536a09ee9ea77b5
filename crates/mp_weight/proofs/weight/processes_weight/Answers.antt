use Rattle.std.proofs.Common.{◌≡◌, length, get_or, take, ap, ◌∙◌, arith, min}
use Rattle.std.specs.List.{sum_by}
use Rattle.mp_base.proofs.Lists.{take_whole}
use Rattle.mp_program.specs.Weight.{process_weight}
use Rattle.mp_weight.proofs.Capping.{sum_more}
use Rattle.mp_weight.proofs.Terms.{process_term}
use Rattle.mp_weight.proofs.weight.processes_weight.Goals as goal

pub loop-process-init : goal.loop-process-init
loop-process-init c = omega arith

pub loop-process-preserved : goal.loop-process-preserved
loop-process-preserved c =
    let p = c.args.program.now in
    let same : c.process_weight.result
    ≡ min c.args.cap
    (process_weight p (get_or c.as_slice-process-items.result.now c.loop-process.process-index c.process-item.result)) =
    c.process_weight.ensures ∙ process_term p c.args.cap c.args.calls.now c.process-item.result c.requires
    ∙ ap (λ q. min c.args.cap (process_weight p q)) c.process-item.is in
    sum_more
    (process_weight p) c.args.cap c.as_slice-process-items.result.now c.loop-process.process-index
    c.process-item.result c.loop-process.weight c.process_weight.result c.plus-weight.result
    c.loop-process-test.true c.loop-process.invariant (omega (arith, same)) c.plus-weight.ensures

pub returns : goal.returns
returns c =
    let end : c.loop-process.process-index ≡ length c.as_slice-process-items.result.now = omega arith in
    c.loop-process.invariant ∙ ap (λ qs. min c.args.cap (sum_by (process_weight c.args.program.now) qs))
    (ap (λ k. take k c.as_slice-process-items.result.now) end ∙ take_whole c.as_slice-process-items.result.now
    ∙ c.as_slice-process-items.ensures)
