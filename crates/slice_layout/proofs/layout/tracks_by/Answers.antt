use Rattle.std.proofs.Common.{◌<◌, ◌^◌, ◌∙◌, List, length, sym, ap, subst}
use Rattle.std.specs.Prelude.{All}
use Rattle.track_assign.specs.declared.packing.Interval.{Interval}
use Rattle.track_assign.specs.Density.{AreApart, IsDensity, IsInterval}
use Rattle.slice_form.specs.Slices.{slice_columns}
use Rattle.slice_form.specs.Whole.{path_of}
use Rattle.band_lists.proofs.Banded.{intervals_few, rows_of, tracks_of}
use Rattle.slice_layout.proofs.SliceLayout.{all_intervals}
use Rattle.slice_layout.proofs.layout.tracks_by.Goals as goal

pub pack-requires-clause-within : goal.pack-requires-clause-within
pack-requires-clause-within c =
    subst (All IsInterval) (sym c.requires) (all_intervals c.args.path.now c.len-nets.ensures.shape)

pub pack-requires-clause-few : goal.pack-requires-clause-few
pack-requires-clause-few c =
    let p = c.args.path.now in
    subst (λ (l : List Interval). length l < 2 ^ 32) (sym c.requires)
    (intervals_few (slice_columns (path_of p)) p.slices.net c.len-nets.ensures.shape)

pub returns : goal.returns
returns c =
    let p = c.args.path.now in
    let y = slice_columns (path_of p) in
    let tracks = c.in_ok-tracks.tracks in
    let e = c.in_ok-tracks.ensures in
    let long = e.long ∙ ap (λ (l : List Interval). length l) c.requires in
    let density = subst (λ l. IsDensity l tracks.rows tracks.column) c.requires e.density in
    record {
      rows = rows_of y p.slices.net tracks c.len-nets.ensures.shape long e.within density;
      apart = tracks_of y p.slices.net tracks long e.within (subst (λ l. AreApart l tracks.row) c.requires e.apart);
      density = density;
    }
