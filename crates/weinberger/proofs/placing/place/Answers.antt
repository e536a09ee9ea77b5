use Rattle.std.proofs.Common.{◌∙◌, ◌+◌, ℕ, [], ◌∷◌, List, length, take, ap, slice_index, arith}
use Rattle.std.proofs.lemmas.List.FromFn.{take-map-range_with_len}
use Rattle.nor_net.specs.declared.net.Part.{Part}
use Rattle.fabric.specs.declared.thing.Segment.{Segment}
use Rattle.array_form.specs.declared.band.Band.{Band}
use Rattle.array_form.specs.Laying.{band_segment}
use Rattle.array_form.specs.Place.{columns_in, cols_in}
use Rattle.weinberger.proofs.Fitted.{band_of}
use Rattle.weinberger.proofs.placing.place.Goals as goal

pub lay_out-requires : goal.lay_out-requires
lay_out-requires c =
    band_of c.args.fabric.now c.args.band.now c.args.net.now c.requires.fitted c.conditions.ensures.room

pub returns : goal.returns
returns c =
    let band : Band = c.args.band.now in
    let parts : List Part = c.args.net.now in
    let tracks = c.in_ok-layout.layout.tracks in
    let g : ℕ → Segment = band_segment band.index (cols_in (columns_in band parts) parts) (slice_index tracks.row) in
    record {
      tracks = tracks;
      groups = c.in_ok-placed.ensures.groups;
      are_tracks = c.in_ok-layout.ensures.tracks.apart;
      long = c.in_ok-layout.ensures.tracks.rows.long;
      density = c.in_ok-layout.ensures.tracks.density;
      after = c.in_ok-add.ensures;
      told = c.in_ok-placed.ensures.segments
          ∙ ap (λ (l : List Segment). l ∷ []) (ap (take (length parts)) c.in_ok-added.ensures.segments
          ∙ take-map-range_with_len g 0 (length parts + 3) (length parts) (omega arith));
    }
