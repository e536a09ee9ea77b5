use Rattle.std.proofs.Common.{◌++◌, ◌∷◌, [], ◌∙◌, ap, arith}
use Rattle.fabric.specs.Places.{segment_key}
use Rattle.fabric.proofs.Entries.{one_more, are_entries}
use Rattle.fabric.proofs.places.segment_entries.Goals as goal

pub loop-i-preserved : goal.loop-i-preserved
loop-i-preserved c =
    let pushed = c.in_ok-push.ensures.ok
    ∙ ap (λ k. c.loop-i.entries ++ (record { key = k; number = c.loop-i.i }) ∷ []) c.row_key-key.ensures in
    one_more (segment_key c.args.plan.now) c.args.segments.now c.loop-i.i _ c.loop-i-test.true c.loop-i.entries
    c.push.new.self
    c.loop-i.invariant pushed

pub returns : goal.returns
returns c =
    are_entries (segment_key c.args.plan.now) c.args.segments.now c.loop-i.i c.loop-i.entries _ c.loop-i.invariant
    (omega (arith, c.loop-i-test.false)) c.in_ok-in_order.ensures.same c.in_ok-in_order.ensures.sorted
