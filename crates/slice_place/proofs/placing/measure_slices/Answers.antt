use Rattle.std.proofs.Common.{suc, ◌≡◌, ◌+◌, ◌∙◌, replicate, ap, arith}
use Rattle.slice_place.proofs.placing.measure_slices.Goals as goal

pub returns : goal.returns
returns c =
    let l = c.in_ok-layout.layout in
    let e = c.in_ok-layout.ensures in
    let next : l.tracks.rows + 1 ≡ suc l.tracks.rows = omega arith in
    record {
      rows = l.tracks.rows;
      column = l.tracks.column;
      density = e.tracks.density;
      columns_is = (let h = e.homes.end in omega (arith, h));
      rows_is = c.in_ok-rows_of.ensures ∙ ap (replicate c.args.path.now.width) next;
      taps_is = c.in_ok-taps_of.ensures;
    }
