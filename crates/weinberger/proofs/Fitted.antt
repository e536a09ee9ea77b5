-- A fabric with what is laid out in a band, under the conditions of a caller.
use Rattle.std.proofs.Common.{◌≡◌, suc, ◌+◌, ◌<◌, List, length, map, sym, ◌∙◌, ap, subst, arith}
use Rattle.std.specs.Prelude.{slice_index}
use Rattle.mp_base.proofs.Members.{member_contains, map_member}
use Rattle.fabric.specs.Plan.{Plan, IsFabric, rows_of, with_added}
use Rattle.fabric.specs.Room.{limit, IsRoomy}
use Rattle.nor_net.specs.declared.net.NetId.{NetId}
use Rattle.nor_net.specs.declared.net.Part.{Part}
use Rattle.nor_net.specs.Shape.{IsNet, IsFed}
use Rattle.nor_net.proofs.Parts.{fed_parts}
use Rattle.track_assign.specs.declared.packing.Tracks.{Tracks}
use Rattle.track_assign.proofs.Densities.{density_once}
use Rattle.array_form.specs.declared.band.Tap.{Tap}
use Rattle.array_form.specs.declared.band.Band.{Band}
use Rattle.array_form.specs.Laying.{AreTracks, band_segments, band_lines, band_marks, with_net}
use Rattle.array_form.specs.Place.{columns_in, cols_in, intervals_in, IsBandOf, IsFitted, HasSpace}
use Rattle.array_form.proofs.Homes.{greatest_above}
use Rattle.array_form.proofs.Laid.{all_from, placed_is_fabric}
use Rattle.array_form.proofs.Room.{has_room}
use Rattle.array_form.proofs.Counting.{net_fits}
use Rattle.weinberger.specs.Layouts.{AreTracksOf}

module _ (f : Plan) (band : Band) (parts : List Part) (fitted : IsFitted f band parts) where
  pub band_of : IsRoomy f → IsBandOf band parts
  band_of roomy = record {
    first = let c = fitted.3.columns in let r = roomy.columns_fit in omega arith;
    nets = all_from (λ (t : Tap). t.net.0 < length parts) band.taps
        (λ t m. (fitted.3.taps_in t (member_contains band.taps t m)).0);
    columns = all_from (λ (t : Tap). t.column < limit) band.taps
        (λ t m. let g =
        greatest_above (map (λ t. t.column + 1) band.taps) (t.column + 1)
        (map_member (λ (t : Tap). t.column + 1) band.taps t m) in
        let c = fitted.3.columns in let r = roomy.columns_fit in omega arith);
    west = all_from (λ (i : NetId). i.0 < length parts) band.west
        (λ i m. fitted.3.west_in i (member_contains band.west i m));
  }

  module _ (tracks : Tracks) (are : AreTracksOf band parts tracks) where
    top_is : rows_of f band.index ≡ suc tracks.rows
    top_is = fitted.3.rows_is
        ∙ ap suc (density_once
        (intervals_in (columns_in band parts) parts) fitted.0 fitted.1 tracks.rows tracks.column fitted.2
        are.density)

    -- what is added with the packed rows is what the net's form in the band says
    pub same_fabric : with_added f
        (band_segments band.index (cols_in (columns_in band parts) parts) (slice_index tracks.row) parts)
        (band_lines band.index (columns_in band parts) parts)
        (band_marks band.index (suc tracks.rows) (slice_index tracks.row) (columns_in band parts) parts)
        ≡ with_net f band.index (columns_in band parts) parts (cols_in (columns_in band parts) parts)
        (slice_index tracks.row)
    same_fabric =
        ap (λ t. with_added f
        (band_segments band.index (cols_in (columns_in band parts) parts) (slice_index tracks.row) parts)
        (band_lines band.index (columns_in band parts) parts)
        (band_marks band.index t (slice_index tracks.row) (columns_in band parts) parts)) (sym top_is)

    pub is_fabric : IsFabric f → IsNet parts → IsFed parts
        → IsFabric (with_net f band.index (columns_in band parts) parts (cols_in (columns_in band parts) parts)
        (slice_index tracks.row))
    is_fabric lawful is_net fed =
        placed_is_fabric f lawful band.index (columns_in band parts) parts (cols_in (columns_in band parts) parts)
        (slice_index tracks.row) fitted.0
        (has_room f band parts fitted.0 is_net (fed_parts parts fed) fitted.3)
        (subst (AreTracks (columns_in band parts) parts (cols_in (columns_in band parts) parts)
        (slice_index tracks.row))
        (sym (density_once
        (intervals_in (columns_in band parts) parts) fitted.0 fitted.1 tracks.rows tracks.column fitted.2
        are.density)) are.apart)

    pub is_roomy : IsRoomy f → HasSpace f parts
        → IsRoomy (with_net f band.index (columns_in band parts) parts (cols_in (columns_in band parts) parts)
        (slice_index tracks.row))
    is_roomy roomy space =
        net_fits f band.index (columns_in band parts) parts (cols_in (columns_in band parts) parts)
        (slice_index tracks.row) roomy space
