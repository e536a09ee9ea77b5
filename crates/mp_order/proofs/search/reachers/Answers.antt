use Rattle.std.proofs.Common.{subst, sym, ◌∙◌, ap, replicate, List, ℕ}
use Rattle.mp_order.specs.Demands.{AreDemands}
use Rattle.mp_order.proofs.Reaching.{Reaching, reaching_start, reaching_more, reaching_done}
use Rattle.mp_order.proofs.search.reachers.Goals as goal

pub spread-init : goal.spread-init
spread-init c =
    let (x, driven) = c.requires.driven in
    let P : List ℕ → Type 0 = λ xs. Reaching c.args.program.now c.args.target xs in
    subst P (sym c.set.ensures)
    (reaching_start c.args.program.now c.args.target x c.in_ok-weights.weights driven
    (c.in_ok-weights.ensures ∙ ap (λ n. replicate n 0) c.len.ensures))

pub spread-preserved : goal.spread-preserved
spread-preserved c =
    let P : List ℕ → Type 0 = λ xs. AreDemands c.args.program.now xs c.in_ok-reach.reach in
    reaching_more c.args.program.now c.args.target c.spread.weights c.widen.new.weights c.in_ok-reach.reach
    c.spread.invariant (subst P c.as_slice.ensures c.in_ok-reach.ensures) c.widen.ensures.wider

pub returns-then-not-widen : goal.returns-then-not-widen
returns-then-not-widen c =
    let P : List ℕ → Type 0 = λ xs. AreDemands c.args.program.now xs c.in_ok-reach.reach in
    reaching_done c.args.program.now c.args.target c.spread.weights c.widen.new.weights c.in_ok-reach.reach
    c.spread.invariant (subst P c.as_slice.ensures c.in_ok-reach.ensures) c.widen.ensures.wider
    (c.widen.ensures.same c.if-not-widen.true)
