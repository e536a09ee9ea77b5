use Rattle.cif_place.proofs.Points.{layered_more}
use Rattle.cif_place.proofs.point.draw_pieces.Goals as goal

pub loop-piece-preserved : goal.loop-piece-preserved
loop-piece-preserved c =
    layered_more c.args.layer c.args.pieces.now c.loop-piece.piece-index _ c.args.shapes.now c.loop-piece.shapes
    c.push.new.self c.loop-piece-test.true c.loop-piece.invariant c.in_ok-push.ensures.ok
