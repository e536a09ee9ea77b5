use Rattle.std.proofs.Common.{◌∙◌, ◌++◌, ◌∷◌, [], ap, arith}
use Rattle.cif_flat.proofs.Namings.{way_unnamed, way_stops, way_more, way_ends}
use Rattle.cif_flat.proofs.way.way_to.Goals as goal

pub returns-in_default-named : goal.returns-in_default-named
returns-in_default-named c =
    way_unnamed c.args.items.now c.args.levels.now _ c.in-Some.inner.now c.in-Some.ensures.cases.0 c.args.level
    c.in_default-named.is

pub returns-in_default-named-2 : goal.returns-in_default-named-2
returns-in_default-named-2 c =
    way_stops c.args.items.now c.args.levels.now _ c.in-Some.inner.now c.in-Some.ensures.cases.0 c.args.level
    c.loop-outer.outer-index _ c.loop-outer-test.true c.in_default-named-2.is

pub loop-outer-preserved : goal.loop-outer-preserved
loop-outer-preserved c =
    way_more c.args.items.now c.in-Some.inner.now c.loop-outer.outer-index _ c.loop-outer.way.items
    c.push.new.self.items c.in-Some-named-2.named c.loop-outer-test.true c.loop-outer.invariant c.in-Some-named-2.is
    (c.in_ok-push.ensures.items
    ∙ ap (λ z. z ++ 47 ∷ []) (c.in_ok-extend_from_slice.ensures.items ∙ ap (λ z. c.loop-outer.way.items ++ z) c.bytes.ensures))

pub returns : goal.returns
returns c =
    way_ends c.args.items.now c.args.levels.now _ c.in-Some.inner.now c.in-Some.ensures.cases.0 c.args.level
    c.loop-outer.outer-index c.loop-outer.way.items c.push-2.new.self.items c.in-Some-named.own (omega arith)
    c.loop-outer.invariant c.in-Some-named.is
    (c.in_ok-push-2.ensures.items
    ∙ ap (λ z. z ++ 47 ∷ []) (c.in_ok-extend_from_slice-2.ensures.items ∙ ap (λ z. c.loop-outer.way.items ++ z) c.bytes-2.ensures))
