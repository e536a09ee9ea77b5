use Rattle.std.proofs.Common.{arith}
use Rattle.weinberger.proofs.placing.measure.Goals as goal

pub returns : goal.returns
returns c =
    let l = c.in_ok-layout.layout in
    let e = c.in_ok-layout.ensures in
    record {
      rows = l.tracks.rows;
      column = l.tracks.column;
      density = e.tracks.density;
      columns_is = omega (arith, e.homes.end);
      rows_is = omega arith;
    }
