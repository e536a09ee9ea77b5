use Rattle.std.proofs.Common.{◌≡◌, ◌+◌, length, take, ap, ◌∙◌, arith, slice_index, min}
use Rattle.std.specs.List.{sum_by}
use Rattle.mp_base.proofs.Lists.{take_whole}
use Rattle.mp_weight.proofs.Capping.{sum_more_from}
use Rattle.mp_weight.proofs.calls.sum_at.Goals as goal

pub loop-index-init : goal.loop-index-init
loop-index-init c = omega (arith, c.requires)

pub loop-index-preserved : goal.loop-index-preserved
loop-index-preserved c =
    sum_more_from
    (slice_index c.args.numbers.now) c.args.cap c.args.start c.args.indices.now c.loop-index.index-index 0
    c.loop-index.sum c.read.result c.plus-sum.result
    c.loop-index-test.true c.loop-index.invariant (ap (min c.args.cap) c.read.ensures) c.plus-sum.ensures

pub returns : goal.returns
returns c =
    let end : c.loop-index.index-index ≡ length c.args.indices.now = omega arith in
    c.loop-index.invariant
    ∙ ap (λ xs. min c.args.cap (c.args.start + sum_by (slice_index c.args.numbers.now) xs))
    (ap (λ k. take k c.args.indices.now) end ∙ take_whole c.args.indices.now)
