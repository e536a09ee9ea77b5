-- Layer by layer.
use Rattle.std.proofs.Common.{arith}
use Rattle.layer_strips.proofs.Collected.{up_more, up_all}
use Rattle.layer_strips.proofs.cutting.all_strips.Goals as goal

pub loop-number-preserved : goal.loop-number-preserved
loop-number-preserved c =
    up_more c.args.shapes.now c.loop-number.number c.layer.result c.loop-number.strips c.add_layer.new.strips
    c.layer.ensures c.in_ok-add_layer.ensures
    c.loop-number.invariant

pub returns : goal.returns
returns c = up_all c.args.shapes.now c.loop-number.number c.loop-number.strips (omega arith) c.loop-number.invariant
