use Rattle.lam_geom.specs.declared.layer.Layer.TheVariants.{ND}
use Rattle.cif_emit.proofs.Cursors.{layer_passed, layer_found, none_layer}
use Rattle.cif_emit.proofs.cursor.next_layer.Goals as goal

pub loop-number-preserved : goal.loop-number-preserved
loop-number-preserved c = layer_passed c.args.rects.now c.layers-layers.result.now c.args.from c.loop-number.number ND
    c.layers-layers.ensures c.loop-number-test.true c.in_default.ensures c.loop-number.invariant

pub returns-in-Some : goal.returns-in-Some
returns-in-Some c =
    layer_found c.args.rects.now c.layers-layers.result.now c.args.from c.loop-number.number c.in-Some.at ND
    c.layers-layers.ensures c.loop-number-test.true c.in-Some.ensures c.loop-number.invariant

pub returns : goal.returns
returns c =
    none_layer c.args.rects.now c.layers-layers.result.now c.args.from c.loop-number.number c.layers-layers.ensures
    c.loop-number-test.false c.loop-number.invariant
