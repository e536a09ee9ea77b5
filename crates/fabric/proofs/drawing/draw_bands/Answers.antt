use Rattle.std.proofs.Common.{arith}
use Rattle.fabric.proofs.Low.{base_low, band_drawn}
use Rattle.fabric.proofs.drawing.draw_bands.Goals as goal

pub overflow_add-ground : goal.overflow_add-ground
overflow_add-ground c = let t = c.loop-b-test.true in
    let l = base_low c.args.plan.now c.args.bases.now c.loop-b.b c.requires.bases (omega arith) in omega arith

pub loop-b-preserved : goal.loop-b-preserved
loop-b-preserved c =
    band_drawn c.args.plan.now c.args.bases.now c.loop-b.b c.args.last c.requires.bases
    (omega (arith, c.loop-b-test.true)) c.requires.last c.args.shape.now c.loop-b.shape c.push.new.self
    c.push-in-loop-b.new.self c.lambdas.result c.lambdas-in-loop-b.result
    c.loop-b.invariant c.in_ok-push.ensures.ok c.in_ok-push-2.ensures.ok c.lambdas.ensures c.lambdas-in-loop-b.ensures
