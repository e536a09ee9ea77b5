-- Tile by tile.
use Rattle.std.proofs.Common.{arith, ap, ◌∙◌, ◌++◌, ◌∷◌, [], map}
use Rattle.std.proofs.lemmas.List.{take_all}
use Rattle.rule_tiles.specs.Cuts.{corner_of}
use Rattle.rule_tiles.proofs.Listing.{map_one}
use Rattle.rule_tiles.proofs.blocks.corners.Goals as goal

pub corner-requires : goal.corner-requires
corner-requires c = c.requires c.loop-tile.tile-index _ c.loop-tile-test.true

pub loop-tile-preserved : goal.loop-tile-preserved
loop-tile-preserved c =
    map_one corner_of c.args.tiles.now c.loop-tile.tile-index _ c.loop-tile.corners c.push.new.self
    c.loop-tile-test.true c.loop-tile.invariant
    (c.in_ok-push.ensures.ok ∙ ap (λ r. c.loop-tile.corners ++ r ∷ []) c.corner.ensures)

pub returns : goal.returns
returns c =
    c.loop-tile.invariant ∙ ap (map corner_of) (take_all c.loop-tile.tile-index c.args.tiles.now (omega arith))
