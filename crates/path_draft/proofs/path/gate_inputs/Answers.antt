use Rattle.std.proofs.Common.{◌∙◌, ap, ◌+◌, sym, arith}
use Rattle.path_draft.proofs.Counts.{fan_within}
use Rattle.path_draft.proofs.path.gate_inputs.Goals as goal

pub overflow_add-count : goal.overflow_add-count
overflow_add-count c =
    let f = c.fan_in-count.result in
    let e = c.loop-id.invariant in
    let within = fan_within c.args.net.now c.loop-id.id f (omega (arith, c.len-id-end.ensures.len)) c.fan_in-count.ensures
    in
    let few = c.len-id-end.ensures.shape.few_inputs in
    omega (arith, within.1, few, e)

pub loop-id-preserved : goal.loop-id-preserved
loop-id-preserved c =
    let f = c.fan_in-count.result in
    let within = fan_within c.args.net.now c.loop-id.id f (omega (arith, c.len-id-end.ensures.len)) c.fan_in-count.ensures
    in
    ap (λ n. n + f) c.loop-id.invariant ∙ sym within.0
