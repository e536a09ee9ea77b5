use Rattle.std.proofs.Common.{◌<◌, ◌^◌, ◌∙◌, List, length, sym, ap, subst}
use Rattle.std.specs.Prelude.{All}
use Rattle.track_assign.specs.declared.packing.Interval.{Interval}
use Rattle.track_assign.specs.Density.{AreApart, IsDensity, IsInterval}
use Rattle.array_form.specs.Place.{columns_in}
use Rattle.band_lists.proofs.Banded.{intervals_few, rows_of, tracks_of}
use Rattle.weinberger.proofs.AllPins.{all_intervals}
use Rattle.weinberger.proofs.layout.tracks_by.Goals as goal

pub pack-requires-clause-within : goal.pack-requires-clause-within
pack-requires-clause-within c =
    subst (All IsInterval) (sym c.requires.spans)
    (all_intervals c.args.band.now c.args.net.now c.requires.band c.len-nets.ensures.shape)

pub pack-requires-clause-few : goal.pack-requires-clause-few
pack-requires-clause-few c =
    let parts = c.args.net.now in
    subst (λ (l : List Interval). length l < 2 ^ 32) (sym c.requires.spans)
    (intervals_few (columns_in c.args.band.now parts) parts c.len-nets.ensures.shape)

pub returns : goal.returns
returns c =
    let parts = c.args.net.now in
    let y = columns_in c.args.band.now parts in
    let tracks = c.in_ok-tracks.tracks in
    let e = c.in_ok-tracks.ensures in
    let long = e.long ∙ ap (λ (l : List Interval). length l) c.requires.spans in
    let density = subst (λ l. IsDensity l tracks.rows tracks.column) c.requires.spans e.density in
    record {
      rows = rows_of y parts tracks c.len-nets.ensures.shape long e.within density;
      apart = tracks_of y parts tracks long e.within
          (subst (λ l. AreApart l tracks.row) c.requires.spans e.apart);
      density = density;
    }
