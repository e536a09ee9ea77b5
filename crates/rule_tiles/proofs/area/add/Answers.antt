-- Rectangle by rectangle.
use Rattle.std.proofs.Common.{arith, ap, ◌∙◌, ◌++◌, ◌∷◌, [], map}
use Rattle.std.proofs.lemmas.List.{take_all}
use Rattle.rule_tiles.specs.Areas.{grown}
use Rattle.rule_tiles.proofs.Listing.{map_more}
use Rattle.rule_tiles.proofs.area.add.Goals as goal

pub grown-requires : goal.grown-requires
grown-requires c = c.requires c.loop-rect.rect-index _ c.loop-rect-test.true

pub loop-rect-preserved : goal.loop-rect-preserved
loop-rect-preserved c =
    map_more (grown c.args.layer c.args.before c.args.after) c.args.shapes.now c.args.area.now c.loop-rect.rect-index _
    c.loop-rect.shapes c.push.new.self c.loop-rect-test.true c.loop-rect.invariant
    (c.in_ok-push.ensures.ok ∙ ap (λ r. c.loop-rect.shapes ++ r ∷ []) c.grown.ensures)

pub returns : goal.returns
returns c =
    c.loop-rect.invariant
    ∙ ap (λ xs. c.args.shapes.now ++ map (grown c.args.layer c.args.before c.args.after) xs)
    (take_all c.loop-rect.rect-index c.args.area.now (omega arith))
