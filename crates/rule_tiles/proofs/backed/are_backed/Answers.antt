-- All are held in tiles.
use Rattle.rule_tiles.proofs.Backing.{backed_of}
use Rattle.rule_tiles.proofs.backed.are_backed.Goals as goal

pub returns : goal.returns
returns c = λ e.
    backed_of c.args.shapes.now c.in_ok-tiles.tiles c.args.corners.now c.args.odd.now c.in_ok-tiles.ensures
    (c.are_all_held.ensures e)
