-- What it means that the masks in a file do what a program says.
use Rattle.std.specs.Prelude.{◌≡◌, ℕ, ◌<◌, List, [], length, All, None, slice_index_or}
use Rattle.mp_base.specs.declared.value.Trit.{Trit}
use Rattle.mp_base.specs.declared.pad.Pads.{Pads}
use Rattle.lam_geom.specs.declared.rect.Rect.{Rect}
use Rattle.lam_geom.specs.declared.label.FlatLabel.{FlatLabel}
use Rattle.lam_geom.specs.Squares.{covered}
use Rattle.cif_form.specs.declared.command.Item.{Item}
use Rattle.cif_form.specs.Text.{Reads}
use Rattle.cif_form.specs.Scans as scans
use Rattle.cif_form.specs.Scans.{FileScans}
use Rattle.cif_form.specs.Expansion.{Expands}
use Rattle.cif_form.specs.Walk as walks
use Rattle.cif_form.specs.Walk.{FileWalks}
use Rattle.switch_net.specs.declared.network.Network.{Network}
use Rattle.switch_net.specs.Breaks.{IsSoundMask}
use Rattle.switch_net.specs.Clock.{IsCircuitTrace}
use Rattle.mp_base.specs.PadBits.{Fit, value_bits}
use Rattle.mp_program.specs.declared.program.Program.{Program}
use Rattle.mp_program.specs.Pads.{ArePadsOf}
use Rattle.mp_program.specs.Trace.{IsTrace, IsSettled}

-- The bytes are a CIF file: they read as commands, which break no rule of texts; the commands draw shapes, and their
-- walk, which tells the labels, breaks no rule of drawing; these draw the network, and break no rule of masks with the
-- pads.
pub record Draws (bytes : List ℕ) (pads : Pads) (network : Network) : Type 0 where
  pub commands : List Item
  pub shapes : List Rect
  pub labels : List FlatLabel
  pub read : Reads 0 bytes commands
  pub well_formed : FileScans bytes commands scans.Whole
  pub drawn : Expands [] None commands shapes
  pub drawable : FileWalks commands shapes labels walks.Whole
  pub mask : IsSoundMask (covered shapes) labels network pads

-- Along these inputs the program has a trace. From every charge the circuit has one too, and whichever it has shows,
-- in each settled clock, the bits of what the program shows on each output pad.
pub record Follows (p : Program) (pads : Pads) (network : Network) (inputs : List (List ℕ)) : Type 0 where
  pub outputs : List (List ℕ)
  pub program : IsTrace p inputs outputs
  pub runs : (charge : ℕ → Trit)
      → (shown : List (List (List Trit))) × (after : ℕ → Trit) × IsCircuitTrace network pads charge inputs shown after
  pub agrees : (charge after : ℕ → Trit) (shown : List (List (List Trit)))
      → IsCircuitTrace network pads charge inputs shown after
      → (k : ℕ) → k < length inputs → IsSettled p inputs k
      → slice_index_or shown k [] ≡ value_bits pads.outputs (slice_index_or outputs k [])

-- The headline: the bytes draw a network with the pads of the program, and along every list of inputs that fit the pads
-- this network follows the program.
pub record IsChipOf (p : Program) (bytes : List ℕ) : Type 0 where
  pub pads : Pads
  pub are_pads : ArePadsOf p pads
  pub network : Network
  pub draws : Draws bytes pads network
  pub follows : (inputs : List (List ℕ)) → All (Fit pads.inputs) inputs → Follows p pads network inputs
