-- What a data path shows.
use Rattle.std.specs.Prelude.{◌≡◌, ◌<◌, ◌^◌, ℕ, suc, List, [], Some, if◌then◌else◌, ◌==◌, All, length, slice_get}
use Rattle.std.specs.Prelude.{slice_index, slice_index_or}
use Rattle.std.specs.List.{AllZip}
use Rattle.std.specs.Int.{bit_at}
use Rattle.mp_base.specs.declared.value.Trit.{Trit}
use Rattle.mp_base.specs.declared.value.Trit.TheVariants.{X}
use Rattle.mp_base.specs.declared.pad.Pad.{Pad}
use Rattle.nor_net.specs.declared.net.NetId.{NetId}
use Rattle.nor_net.specs.Elements.{Spot, Nets, spot}
use Rattle.nor_net.specs.Clock.{IsTrace, IsLooseTrace}
use Rattle.nor_net.specs.Laws.{bit}
use Rattle.rtl_form.specs.declared.rtl.Rtl.{Rtl}
use Rattle.rtl_form.specs.Trace as rtl
use Rattle.path_form.specs.declared.path.DataPath.{DataPath}
use Rattle.path_form.specs.Nets.{nets_among}

-- a path as one circuit
abbrev pub path_nets : DataPath → Nets
path_nets p = nets_among p.width p.control p.slices p.casts p.lifts

-- how many bits a pad has
abbrev pub pad_bits : Pad → ℕ
pad_bits pad = if pad.width == 0 then 1 else pad.width

-- where bit k of a pad stands
abbrev pub pad_spot : Pad → NetId → ℕ → Spot
pad_spot pad id k = spot (if pad.width == 0 then 0 else suc k) id

-- at each pad the nets of its bits have the bits of its value
abbrev pub HasPadValues : List Pad → List NetId → List ℕ → (Spot → Trit) → Type 0
HasPadValues pads ids values v =
    (i : ℕ) (pad : Pad) (id : NetId) (k : ℕ) → slice_get pads i ≡ Some pad → slice_get ids i ≡ Some id
    → k < pad_bits pad → v (pad_spot pad id k) ≡ bit (bit_at (slice_index values i) k == 1)

-- the values fit the pads
abbrev pub FitPads : List Pad → List ℕ → Type 0
FitPads pads values = (i : ℕ) (pad : Pad) → slice_get pads i ≡ Some pad → slice_index values i < 2 ^ pad_bits pad

-- From any values, in each settled clock the path shows the outputs of the transfers; in any trace of solutions, so
-- also in the settled one.
abbrev pub ShowsTransfers : Rtl → DataPath → Type 0
ShowsTransfers r p =
    (inputs outputs : List (List ℕ)) → All (FitPads (r.pads).inputs) inputs → rtl.IsTrace r inputs outputs
    → (before : Spot → Trit) (givens showns : List (Spot → Trit)) (after : Spot → Trit)
    → AllZip (HasPadValues (r.pads).inputs p.inputs) inputs givens
    → IsLooseTrace (path_nets p) before givens showns after
    → (k : ℕ) → k < length inputs → rtl.IsSettled r inputs k
    → HasPadValues (r.pads).outputs p.outputs (slice_index_or outputs k []) (slice_index_or showns k (λ n. X))

-- there is a settled trace from any values, whatever is given
abbrev pub HasTraces : DataPath → Type 0
HasTraces p =
    (before : Spot → Trit) (givens : List (Spot → Trit))
    → (showns : List (Spot → Trit)) × (after : Spot → Trit) × IsTrace (path_nets p) before givens showns after
