use Rattle.std.proofs.Common.{arith}
use Rattle.fabric.proofs.Low.{coordinate}
use Rattle.fabric.proofs.drawing.placed.Goals as goal

pub returns : goal.returns
returns c = λ i. record {
  layer = c.args.r.now.layer;
  x0 = coordinate c.args.x c.args.r.now.x0 c.from.result (omega (arith, c.ranges.x.fits)) c.requires.x0 c.from.ensures
      i;
  y0 = coordinate c.args.y c.args.r.now.y0 c.from-2.result (omega (arith, c.ranges.y.fits)) c.requires.y0
      c.from-2.ensures i;
  x1 = coordinate c.args.x c.args.r.now.x1 c.from-3.result (omega (arith, c.ranges.x.fits)) c.requires.x1
      c.from-3.ensures i;
  y1 = coordinate c.args.y c.args.r.now.y1 c.from-4.result (omega (arith, c.ranges.y.fits)) c.requires.y1
      c.from-4.ensures i;
}
