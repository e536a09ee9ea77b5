-- Tile by tile.
use Rattle.std.proofs.Common.{sym, subst, take, get_or}
use Rattle.std.proofs.lemmas.List.{take_more}
use Rattle.rule_rows.specs.Closed.{AreCrosses}
use Rattle.rule_rows.proofs.Crossing.{crosses_more, crosses_none}
use Rattle.rule_rows.proofs.Stretching.{no_tile}
use Rattle.rule_rows.proofs.crosses.crosses.Goals as goal

pub loop-tile-init : goal.loop-tile-init
loop-tile-init c = subst (AreCrosses (take 0 c.args.tiles.now)) (sym c.new-rects.ensures) crosses_none

pub loop-tile-preserved : goal.loop-tile-preserved
loop-tile-preserved c =
    let n = c.loop-tile.tile-index in
    let all = c.args.tiles.now in
    subst (λ xs. AreCrosses xs c.add_cross.new.rects) (sym (take_more all n no_tile c.loop-tile-test.true))
    (crosses_more (take n all) (get_or all n no_tile) c.loop-tile.rects c.add_cross.new.rects c.loop-tile.invariant
    c.in_ok-add_cross.ensures)
