-- Tile by tile.
use Rattle.std.proofs.Common.{arith, ap, ◌∙◌}
use Rattle.std.proofs.lemmas.List.{take_all}
use Rattle.rule_tiles.specs.Areas.{bare_of}
use Rattle.rule_tiles.proofs.Listing.{bare_more}
use Rattle.rule_tiles.proofs.area.bare.Goals as goal

pub loop-tile-preserved : goal.loop-tile-preserved
loop-tile-preserved c =
    bare_more c.args.tiles.now c.loop-tile.tile-index _ c.loop-tile.area c.keep_bare.new.area c.loop-tile-test.true
    c.loop-tile.invariant c.in_ok-keep_bare.ensures

pub returns : goal.returns
returns c = c.loop-tile.invariant ∙ ap bare_of (take_all c.loop-tile.tile-index c.args.tiles.now (omega arith))
