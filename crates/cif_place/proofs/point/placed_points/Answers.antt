use Rattle.std.proofs.lemmas.List.Elements.{Contains-get_or}
use Rattle.cif_place.specs.Placing.{scale_of}
use Rattle.cif_place.proofs.Points.{placed_more}
use Rattle.cif_place.proofs.point.placed_points.Goals as goal

pub returns-in_default : goal.returns-in_default
returns-in_default c =
    let whole = c.requires.whole c.loop-index.index _ c.loop-index-test.true in (
      _,
      record { x = whole.0.0; y = whole.1.0 },
      Contains-get_or c.args.path.now c.loop-index.index _ c.loop-index-test.true,
      (whole.0.1, whole.1.1),
      c.in_default.ensures.none whole.0.0 whole.1.0 whole.0.1 whole.1.1,
    )

pub loop-index-preserved : goal.loop-index-preserved
loop-index-preserved c =
    placed_more (scale_of c.args.ratio) c.args.placement c.args.path.now c.loop-index.index _ c.loop-index.points.items
    c.push.new.self.items c.in-Some.point c.loop-index-test.true c.loop-index.invariant c.in-Some.ensures.some
    c.in_ok-push.ensures.items
