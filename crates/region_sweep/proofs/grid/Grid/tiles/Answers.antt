-- Strip by strip.
use Rattle.std.proofs.Common.{◌∙◌, ap, map}
use Rattle.std.proofs.lemmas.List.{take_all}
use Rattle.strip_rows.specs.Strips.{no_strip}
use Rattle.region_sweep.specs.Grid.{tile_of}
use Rattle.region_sweep.proofs.Gridding.{tiles_more}
use Rattle.region_sweep.proofs.grid.Grid.tiles.Goals as goal

pub loop-strip-preserved : goal.loop-strip-preserved
loop-strip-preserved c =
    let grid = c.args.self.now in
    c.in_ok-push.ensures.ok
    ∙ tiles_more grid.columns.marks.items grid.rows.marks.items c.args.strips.now c.loop-strip.strip-index no_strip
    c.loop-strip.tiles c.tile.result
    c.loop-strip-test.true c.loop-strip.invariant c.tile.ensures

pub returns : goal.returns
returns c =
    let grid = c.args.self.now in
    c.loop-strip.invariant
    ∙ ap (map (tile_of grid.columns.marks.items grid.rows.marks.items))
    (take_all c.loop-strip.strip-index c.args.strips.now c.loop-strip-test.false)
