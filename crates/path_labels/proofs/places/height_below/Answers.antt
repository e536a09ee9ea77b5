use Rattle.std.proofs.Common.{◌+◌, get_or, ap, arith}
use Rattle.fabric.proofs.Bases.{top_low}
use Rattle.path_labels.proofs.Heights.{base_next}
use Rattle.path_labels.proofs.places.height_below.Goals as goal

pub overflow_add-height-in-loop-index : goal.overflow_add-height-in-loop-index
overflow_add-height-in-loop-index c =
    let f = c.args.fabric.now in
    let i = c.loop-index.index in
    let t = c.loop-index-test.true in
    let there = c.requires.there in
    let next = base_next f i c.loop-index.height (get_or c.rows-rows.result.now i 0) c.loop-index.invariant
    (ap (λ l. get_or l i 0) c.rows-rows.ensures) in
    let low = top_low f c.conditions.ensures.room (i + 1) (omega (arith, t, there)) in omega (arith, next, low)

pub returns-clause-low : goal.returns-clause-low
returns-clause-low c =
    let here = c.loop-index.auto.index-end in
    let there = c.requires.there in
    let is = c.loop-index.invariant in
    let low = top_low c.args.fabric.now c.conditions.ensures.room c.loop-index.index (omega (arith, here, there)) in
    omega (arith, is, low)
