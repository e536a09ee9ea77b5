-- The fabric of a data path draws the path.
use Rattle.std.proofs.Common.{◌≡◌, ℕ, zero, suc, ◌<◌, ◌≤◌, Some, true, sym, subst, arith}
use Rattle.std.specs.Prelude.{Contains, slice_get, length, slice_index}
use Rattle.switch_net.specs.declared.network.Network.{Network}
use Rattle.fabric.specs.Plan.{Plan, IsFabric}
use Rattle.fabric.specs.Switches.{Net, AreSwitches}
use Rattle.fabric.specs.Switches.Net.{segment}
use Rattle.nor_net.specs.Shape.{IsNet}
use Rattle.nor_net.specs.declared.net.Part.TheVariants.{Input}
use Rattle.drawing.specs.Draws.{Point, OfNet}
use Rattle.track_assign.specs.declared.packing.Tracks.{Tracks}
use Rattle.array_form.specs.Laying.{band_segment}
use Rattle.array_form.specs.Lists.{net_of}
use Rattle.array_form.specs.Wires.{place}
use Rattle.path_form.specs.declared.path.DataPath.{DataPath}
use Rattle.path_form.specs.Shape.{rank}
use Rattle.path_form.specs.Showing.{path_nets}
use Rattle.slice_form.specs.Path.{Path, IsSlice, parts, pads}
use Rattle.slice_form.specs.Along.{DrawsAlong}
use Rattle.slice_form.specs.PathWires.{Across}
use Rattle.slice_form.specs.Slices.{columns_wanted}
use Rattle.slice_form.specs.Whole.{path_of}
use Rattle.slice_form.proofs.Crossing.{path_crossing}
use Rattle.slice_form.proofs.Draws.{made_path_draws}
use Rattle.slice_form.proofs.Whole.{joints_fall}
use Rattle.slice_laying.specs.Added.{slice_cols}
use Rattle.slice_laying.specs.Fitting.{AreSliceTracks}
use Rattle.slice_laying.specs.Paths.{IsPlaceable}
use Rattle.slice_laying.proofs.WholeNarrow.{stubs_are_pads}
use Rattle.slice_laying.proofs.WholeNets.{wholes_have_nets}
use Rattle.slice_laying.proofs.WholePaths.{placeable}
use Rattle.slice_chip.specs.Drawn.{DrawsSliced, SlicedChipsDraw}
use Rattle.slice_chip.specs.Sliced.{AreControlTracks, path_laid}
use Rattle.slice_chip.proofs.MadeOf.{y, stub}
use Rattle.slice_chip.proofs.MarksOf.{is_made}
use Rattle.slice_chip.proofs.TapsStand.{cols, rows, counts, tops, tracks_at}

module _ (p : DataPath) (control_net : IsNet p.control) (slice_net : IsNet p.slices.net) (control slices : Tracks)
    (below : AreControlTracks (path_of p) control) (above : AreSliceTracks (path_of p) slices)
  where
    abbrev whole : Path
    whole = path_of p

    abbrev ready : IsPlaceable whole
    ready = placeable p control_net slice_net

    stubs : (b n : ℕ) → b ≤ p.width → slice_get (parts whole b) n ≡ Some Input
        → stub whole ready control slices below above b n ≡ true → Contains (pads whole b) n
    stubs zero n le h e = (stubs_are_pads p).0 n h e
    stubs (suc b) n le h e = (stubs_are_pads p).1 (suc b) n h e

    slice_node : (number : Net → ℕ) (network : Network) (node : Point → ℕ)
        → DrawsAlong whole (stub whole ready control slices below above)
        (net_of Across (y whole ready control slices below above)) number network (path_nets p) node
        → (b n : ℕ) → IsSlice whole b → n < length p.slices.net
        → node (OfNet (place b n))
        ≡ number (segment (band_segment b (slice_cols whole) (slice_index slices.row) n))
    slice_node number network node d zero n s lt = absurd (let z = s.0 in omega (arith, z))
    slice_node number network node d (suc b) n s lt = d.rows (place (suc b) n) (s.1, lt)

    pub draws : IsFabric (path_laid whole (columns_wanted whole) control slices) → (number : Net → ℕ)
        (network : Network) → AreSwitches (path_laid whole (columns_wanted whole) control slices) number network
        → (node : Point → ℕ) × DrawsSliced p control slices number network node
    draws lawful number network switched =
        let d = made_path_draws whole (stub whole ready control slices below above) (path_nets p) (wholes_have_nets p)
        ready.path stubs (rank p.order) (joints_fall p) (path_laid whole (columns_wanted whole) control slices) lawful
        (y whole ready control slices below above) (is_made whole ready control slices below above)
        (path_crossing whole ready.path (cols whole ready control slices below above)
        (rows whole ready control slices below above) (tops whole ready control slices below above)
        (counts whole ready control slices below above) (tracks_at whole ready control slices below above)) number
        network switched in (
          d.0,
          record {
            draws = (d.1).draws;
            inside = (d.1).inside;
            ground_is = (d.1).ground;
            power_is = (d.1).power;
            phases = (d.1).phases;
            beats = λ ph. (d.1).beats 0 ph (omega arith);
            control_nets = λ n lt. (d.1).rows (place 0 n) (omega arith, lt);
            slice_nets = slice_node number network d.0 d.1;
          },
        )

pub sliced_chips_draw : SlicedChipsDraw
sliced_chips_draw p control_net slice_net f sliced =
    subst
    (λ (f : Plan). IsFabric f → (number : Net → ℕ) (network : Network) → AreSwitches f number network
    → (node : Point → ℕ) × DrawsSliced p sliced.control sliced.slices number network node)
    (sym sliced.is)
    (draws p control_net slice_net sliced.control sliced.slices sliced.control_tracks sliced.slice_tracks)
