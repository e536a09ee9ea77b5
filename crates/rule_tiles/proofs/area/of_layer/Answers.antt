-- Rectangle by rectangle.
use Rattle.std.proofs.Common.{arith, sym, subst, []}
use Rattle.std.proofs.lemmas.List.{take_all}
use Rattle.rule_tiles.proofs.Listing.{AreOfLayer, layer_none, layer_more}
use Rattle.rule_tiles.proofs.area.of_layer.Goals as goal

pub loop-shape-init : goal.loop-shape-init
loop-shape-init c = subst (AreOfLayer c.args.layer []) (sym c.new-own.ensures) (layer_none c.args.layer)

pub loop-shape-preserved : goal.loop-shape-preserved
loop-shape-preserved c =
    layer_more c.args.layer c.args.shapes.now c.loop-shape.shape-index _ c.loop-shape.own c.keep.new.own
    c.loop-shape-test.true c.requires c.loop-shape.invariant c.in_ok-keep.ensures

pub returns-clause-same : goal.returns-clause-same
returns-clause-same c =
    (subst (λ s. AreOfLayer c.args.layer s c.loop-shape.own)
    (take_all c.loop-shape.shape-index c.args.shapes.now (omega arith)) c.loop-shape.invariant).same

pub returns-clause-near : goal.returns-clause-near
returns-clause-near c = c.loop-shape.invariant.near
