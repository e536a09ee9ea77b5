-- What rows of nets show of transfers, for a flat net and for a data path alike; and the rows of a data path.
use Rattle.std.specs.Prelude.{
  ◌≡◌,
  ◌<◌,
  ◌==◌,
  ℕ,
  List,
  [],
  ◌∷◌,
  Some,
  All,
  length,
  map,
  slice_get,
  slice_index,
  slice_index_or,
}
use Rattle.std.specs.List.{AllZip, range_with_len}
use Rattle.std.specs.Int.{bit_at}
use Rattle.mp_base.specs.declared.value.Trit.{Trit}
use Rattle.mp_base.specs.declared.value.Trit.TheVariants.{X}
use Rattle.mp_base.specs.declared.pad.Pad.{Pad}
use Rattle.switch_net.specs.declared.network.Network.{Network}
use Rattle.mp_base.specs.PadBits.{bit_count}
use Rattle.nor_net.specs.declared.net.NetId.{NetId}
use Rattle.nor_net.specs.Elements.{Spot, Nets}
use Rattle.nor_net.specs.Clock.{IsLooseTrace}
use Rattle.nor_net.specs.Laws.{bit}
use Rattle.rtl_form.specs.declared.rtl.Rtl.{Rtl}
use Rattle.rtl_form.specs.Trace as rtl
use Rattle.path_form.specs.declared.path.DataPath.{DataPath}
use Rattle.path_form.specs.Showing as path
use Rattle.path_form.specs.Showing.{ShowsTransfers, path_nets, pad_bits, pad_spot}
use Rattle.drawing.specs.Draws.{Point}
use Rattle.drawn_nets.specs.Circuits.{DrawsCircuit}
use Rattle.drawn_nets.specs.Law.{AreFed}
use Rattle.nor_net.specs.Shape as Shape
use Rattle.chip_laws.specs.Planned.{FollowsTransfers}

-- the nets of each row have the bits of its value
abbrev pub HasRows : List Pad → List (List Spot) → List ℕ → (Spot → Trit) → Type 0
HasRows pads rows values v =
    (i : ℕ) (pad : Pad) (row : List Spot) (k : ℕ) (s : Spot) → slice_get pads i ≡ Some pad
    → slice_get rows i ≡ Some row → slice_get row k ≡ Some s
    → v s ≡ bit (bit_at (slice_index values i) k == 1)

-- from any values, in each settled clock these nets show the outputs of the transfers
abbrev pub RowsShow : Rtl → Nets → List (List Spot) → List (List Spot) → Type 0
RowsShow r nets ins outs =
    (inputs outputs : List (List ℕ)) → All (path.FitPads (r.pads).inputs) inputs → rtl.IsTrace r inputs outputs
    → (before : Spot → Trit) (givens showns : List (Spot → Trit)) (after : Spot → Trit)
    → AllZip (HasRows (r.pads).inputs ins) inputs givens
    → IsLooseTrace nets before givens showns after
    → (k : ℕ) → k < length inputs → rtl.IsSettled r inputs k
    → HasRows (r.pads).outputs outs (slice_index_or outputs k []) (slice_index_or showns k (λ n. X))

-- each row has the bits of its pad
abbrev pub AreFullRows : List Pad → List (List Spot) → Type 0
AreFullRows pads rows = (i : ℕ) (pad : Pad) (row : List Spot) → slice_get pads i ≡ Some pad
    → slice_get rows i ≡ Some row → length row ≡ bit_count pad.width

-- a circuit that draws nets whose rows show the transfers follows them
abbrev pub RowsFollow : Type 0
RowsFollow =
    (rtl : Rtl) (nets : Nets) (ins outs : List (List Spot)) (network : Network) (node : Point → ℕ)
    → RowsShow rtl nets ins outs
    → length outs ≡ length (rtl.pads).outputs → AreFullRows (rtl.pads).outputs outs
    → DrawsCircuit network rtl.pads nets ins outs node → FollowsTransfers rtl network

-- the places of the bits of a path's pads
abbrev pub rows_at : List Pad → List NetId → List (List Spot)
rows_at (pad ∷ pads) (id ∷ ids) = map (pad_spot pad id) (range_with_len 0 (pad_bits pad)) ∷ rows_at pads ids
rows_at _ _ = []

-- a path that shows transfers shows them at these rows, without a flat net
abbrev pub PathsShowRows : Type 0
PathsShowRows =
    (r : Rtl) (p : DataPath) → p.pads ≡ r.pads → ShowsTransfers r p
    → RowsShow r (path_nets p) (rows_at (r.pads).inputs p.inputs) (rows_at (r.pads).outputs p.outputs)

-- the data of a path's latches is a gate or a pad's bit, as drawings want it
abbrev pub PathsAreFed : Type 0
PathsAreFed = (p : DataPath) → Shape.IsNet p.control → Shape.IsNet p.slices.net → AreFed (path_nets p)
