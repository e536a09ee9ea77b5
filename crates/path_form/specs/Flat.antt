-- One net for a path.
use Rattle.std.specs.Prelude.{Contains, ◌≡◌, ◌<◌, ◌≤◌, ◌+◌, ◌*◌, ℕ, List, [], ◌∷◌, Option, Some, None, Bool, true}
use Rattle.std.specs.Prelude.{false, ◌==◌, All, length, map, slice_get, slice_index, slice_index_or}
use Rattle.std.specs.List.{AllZip}
use Rattle.std.specs.Int.{bit_at}
use Rattle.mp_base.specs.declared.pad.Pad.{Pad}
use Rattle.nor_net.specs.declared.net.NetId.{NetId}
use Rattle.nor_net.specs.declared.net.Part.{Part}
use Rattle.nor_net.specs.declared.net.Part.TheVariants.{Input, Gate, Latch}
use Rattle.mp_base.specs.declared.value.Trit.{Trit}
use Rattle.nor_net.specs.Elements.{Spot, Element, Given, Nor, Latched, Joined, Low, Nets, spot, nets_of}
use Rattle.nor_net.specs.Clock.{IsLooseTrace}
use Rattle.nor_net.specs.Shape.{IsFed, gate_inputs}
use Rattle.path_form.specs.declared.path.DataPath.{DataPath}
use Rattle.path_form.specs.declared.flattened.Flattened.{Flattened}
use Rattle.mp_base.specs.declared.value.Trit.TheVariants.{X}
use Rattle.nor_net.specs.Laws.{bit}
use Rattle.rtl_form.specs.declared.rtl.Rtl.{Rtl}
use Rattle.rtl_form.specs.Trace as rtl
use Rattle.path_form.specs.Shape.{rank}
use Rattle.path_form.specs.Showing.{path_nets, pad_bits, pad_spot, FitPads, ShowsTransfers}

-- What stands in the flat net for an element, where each net of the path has a number. A net that is set to 0 is a
-- gate on a gate without inputs.
abbrev pub IsPartOf : List Part → (Spot → NetId) → Spot → Element → Type 0
IsPartOf flat of n Given = slice_get flat (of n).0 ≡ Some Input
IsPartOf flat of n (Nor inputs) = slice_get flat (of n).0 ≡ Some (Gate (map of inputs))
IsPartOf flat of n (Latched phase m) = slice_get flat (of n).0 ≡ Some (Latch phase (Some (of m)))
IsPartOf flat of n (Joined m) = of n ≡ of m
IsPartOf flat of n Low =
    (z : NetId) × (slice_get flat (of n).0 ≡ Some (Gate (z ∷ []))) × (slice_get flat z.0 ≡ Some (Gate []))

-- two nets of the path are one: a chain of joints leads from both to one net
pub data Root (nets : Nets) : Spot → Spot → Type 0 where
  itself : (n : Spot) → Root nets n n
  through : (n m root : Spot) → nets n ≡ Some (Joined m) → Root nets m root → Root nets n root

-- a net of its own: it is joined to no other
abbrev pub is_own : Option Element → Bool
is_own None = false
is_own (Some (Joined m)) = false
is_own (Some e) = true

-- the numbers of the nets of a path; nets of their own are numbered in the order of the path
pub record IsNumbering (p : DataPath) (flat : List Part) (of : Spot → NetId) : Type 0 where
  pub ordered : (m n : Spot) → is_own (path_nets p m) ≡ true → is_own (path_nets p n) ≡ true
      → rank p.order m < rank p.order n → (of m).0 < (of n).0
  pub each : (n : Spot) (e : Element) → path_nets p n ≡ Some e → IsPartOf flat of n e
  pub apart : (n m : Spot) → of n ≡ of m → (root : Spot) × Root (path_nets p) n root × Root (path_nets p) m root

-- the bits of the pads have these numbers
abbrev pub ArePadsOf : List Pad → List NetId → (Spot → NetId) → List (List NetId) → Type 0
ArePadsOf pads ids of bits =
    (i : ℕ) (pad : Pad) (id : NetId) (row : List NetId) → slice_get pads i ≡ Some pad → slice_get ids i ≡ Some id
    → slice_get bits i ≡ Some row
    → (length row ≡ pad_bits pad) × ((k : ℕ) → k < pad_bits pad → slice_get row k ≡ Some (of (pad_spot pad id k)))

-- the net is that of the path, up to numbering
pub record IsFlat (p : DataPath) (f : Flattened) : Type 0 where
  pub of : Spot → NetId
  pub numbering : IsNumbering p f.net of
  pub fed : IsFed f.net
  pub sizes : (length f.inputs ≡ length (p.pads).inputs) × (length f.outputs ≡ length (p.pads).outputs)
  pub inputs : ArePadsOf (p.pads).inputs p.inputs of f.inputs
  pub outputs : ArePadsOf (p.pads).outputs p.outputs of f.outputs

-- the values of the path's nets, of those of a flat net
abbrev pub pulled : (Spot → NetId) → (Spot → Trit) → Spot → Trit
pulled of v n = v (spot 0 (of n))

-- a trace of the flat net is one of the path
abbrev pub FlatFollows : Type 0
FlatFollows =
    (p : DataPath) (flat : List Part) (of : Spot → NetId) → IsNumbering p flat of
    → (before : Spot → Trit) (givens showns : List (Spot → Trit)) (after : Spot → Trit)
    → IsLooseTrace (nets_of flat) before givens showns after
    → IsLooseTrace (path_nets p) (pulled of before) (map (pulled of) givens) (map (pulled of) showns) (pulled of after)

-- the nets of the bits of each pad have the bits of its value
abbrev pub HasBits : List Pad → List (List NetId) → List ℕ → (Spot → Trit) → Type 0
HasBits pads rows values v =
    (i : ℕ) (pad : Pad) (row : List NetId) (k : ℕ) (id : NetId) → slice_get pads i ≡ Some pad
    → slice_get rows i ≡ Some row → slice_get row k ≡ Some id
    → v (spot 0 id) ≡ bit (bit_at (slice_index values i) k == 1)

-- from any values, in each settled clock the flat net shows the outputs of the transfers
abbrev pub FlatShowsTransfers : Rtl → Flattened → Type 0
FlatShowsTransfers r f =
    (inputs outputs : List (List ℕ)) → All (FitPads (r.pads).inputs) inputs → rtl.IsTrace r inputs outputs
    → (before : Spot → Trit) (givens showns : List (Spot → Trit)) (after : Spot → Trit)
    → AllZip (HasBits (r.pads).inputs f.inputs) inputs givens
    → IsLooseTrace (nets_of f.net) before givens showns after
    → (k : ℕ) → k < length inputs → rtl.IsSettled r inputs k
    → HasBits (r.pads).outputs f.outputs (slice_index_or outputs k []) (slice_index_or showns k (λ n. X))

-- the flat net of a path that shows transfers shows them
abbrev pub FlatShows : Type 0
FlatShows = (r : Rtl) (p : DataPath) (f : Flattened) → p.pads ≡ r.pads → ShowsTransfers r p → IsFlat p f
    → FlatShowsTransfers r f

-- the nets of the bits of pads, by their places
abbrev pub rows_of : List (List NetId) → List (List Spot)
rows_of rows = map (λ (row : List NetId). map (spot 0) row) rows

-- each input of the flat net is a bit of an input pad
abbrev pub HasNoOtherInputs : Flattened → Type 0
HasNoOtherInputs f = (k : Spot) → nets_of f.net k ≡ Some Given
    → (nets : List Spot) × Contains (rows_of f.inputs) nets × Contains nets k

-- how many nets and gate inputs one net for a path may have: two gates for each end of a chain and each programmed
-- bit, of which one is counted among the nets of the slice already
pub record IsFewFlat (p : DataPath) (f : Flattened) : Type 0 where
  pub nets : length f.net
      ≤ length p.control + p.width * (length p.slices.net + length p.slices.chains + length p.slices.programs)
  pub inputs : gate_inputs f.net
      ≤ gate_inputs p.control
      + p.width * (gate_inputs p.slices.net + length p.slices.chains + length p.slices.programs)
