-- What the fabric of a data path draws.
use Rattle.std.specs.Prelude.{◌≡◌, ◌<◌, ◌+◌, ℕ, length, slice_index}
use Rattle.switch_net.specs.declared.network.Network.{Network}
use Rattle.fabric.specs.declared.thing.Side.TheVariants.{L}
use Rattle.fabric.specs.Plan.{Plan, IsFabric}
use Rattle.fabric.specs.Switches.{Net, AreSwitches}
use Rattle.fabric.specs.Switches.Net.{segment, line, ground, power}
use Rattle.nor_net.specs.declared.net.Phase.{Phase}
use Rattle.nor_net.specs.Shape.{IsNet}
use Rattle.drawing.specs.Draws.{Point, OfNet, Ground, Power, OfPhase, HasOwnNode, Draws}
use Rattle.track_assign.specs.declared.packing.Tracks.{Tracks}
use Rattle.array_form.specs.Homes.{phase_number}
use Rattle.array_form.specs.Laying.{band_segment}
use Rattle.array_form.specs.Lists.{upright}
use Rattle.array_form.specs.Wires.{place}
use Rattle.path_form.specs.declared.path.DataPath.{DataPath}
use Rattle.path_form.specs.Showing.{path_nets}
use Rattle.slice_form.specs.Path.{IsSlice}
use Rattle.slice_form.specs.Whole.{path_of}
use Rattle.slice_laying.specs.Added.{slice_cols}
use Rattle.slice_chip.specs.Sliced.{IsSliced, control_cols}

-- The network draws the path; the node of a net is that of its segment in its band, and the node of a phase that of its
-- line, and of its segment in the control's band.
pub record DrawsSliced (p : DataPath) (control slices : Tracks) (number : Net → ℕ) (network : Network)
    (node : Point → ℕ) : Type 0 where
  pub draws : Draws network.channels (path_nets p) node
  pub inside : (q : Point) → HasOwnNode (path_nets p) q → node q < network.nodes
  pub ground_is : node Ground ≡ number ground
  pub power_is : node Power ≡ number power
  pub phases : (ph : Phase) → node (OfPhase ph) ≡ number (line (upright (1 + phase_number ph) L 0 p.width))
  pub beats : (ph : Phase) → node (OfPhase ph)
      ≡ number (segment (band_segment 0 (control_cols (path_of p)) (slice_index control.row)
      (length p.control + phase_number ph)))
  pub control_nets : (n : ℕ) → n < length p.control
      → node (OfNet (place 0 n))
      ≡ number (segment (band_segment 0 (control_cols (path_of p)) (slice_index control.row) n))
  pub slice_nets : (b n : ℕ) → IsSlice (path_of p) b → n < length p.slices.net
      → node (OfNet (place b n))
      ≡ number (segment (band_segment b (slice_cols (path_of p)) (slice_index slices.row) n))

-- The switches of a path's fabric draw the path.
abbrev pub SlicedChipsDraw : Type 0
SlicedChipsDraw =
    (p : DataPath) → IsNet p.control → IsNet p.slices.net → (f : Plan) (sliced : IsSliced p f) → IsFabric f
    → (number : Net → ℕ) (network : Network) → AreSwitches f number network
    → (node : Point → ℕ) × DrawsSliced p sliced.control sliced.slices number network node
