use Rattle.std.proofs.Common.{◌++◌, ◌∷◌, [], ◌∙◌, ap, arith}
use Rattle.fabric.specs.Places.{line_key}
use Rattle.fabric.proofs.Entries.{one_more, are_entries}
use Rattle.fabric.proofs.places.line_entries.Goals as goal

pub loop-i-preserved : goal.loop-i-preserved
loop-i-preserved c =
    let pushed = c.in_ok-push.ensures.ok
    ∙ ap (λ k. c.loop-i.entries ++ (record { key = k; number = c.loop-i.i }) ∷ []) c.column_key-key.ensures in
    one_more line_key c.args.lines.now c.loop-i.i _ c.loop-i-test.true c.loop-i.entries c.push.new.self
    c.loop-i.invariant pushed

pub returns : goal.returns
returns c =
    are_entries line_key c.args.lines.now c.loop-i.i c.loop-i.entries _ c.loop-i.invariant
    (omega (arith, c.loop-i-test.false)) c.in_ok-in_order.ensures.same c.in_ok-in_order.ensures.sorted
