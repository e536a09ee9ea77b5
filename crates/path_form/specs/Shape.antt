-- The shape of a data path.
use Rattle.std.specs.Prelude.{◌≡◌, ◌≢◌, ◌<◌, ◌≤◌, ◌+◌, ◌-◌, ◌*◌, ◌&&◌, nat_lt, nat_le, ℕ, suc, List, [], ◌∷◌, ◌++◌}
use Rattle.std.specs.Prelude.{Option, Some, None, Bool, true, false, if◌then◌else◌, ◌==◌, not, All, length, map}
use Rattle.std.specs.Prelude.{slice_get}
use Rattle.std.specs.List.{count_by, list_all}
use Rattle.mp_base.specs.declared.pad.Pad.{Pad}
use Rattle.mp_base.specs.declared.pad.Pads.{Pads}
use Rattle.nor_net.specs.declared.net.NetId.{NetId}
use Rattle.nor_net.specs.declared.net.Part.{Part}
use Rattle.nor_net.specs.declared.net.Part.TheVariants.{Input, Latch}
use Rattle.nor_net.specs.Elements.{Spot, Element, Nor, Joined}
use Rattle.nor_net.specs.Shape.{gate_inputs, net_limit}
use Rattle.organelles.specs.declared.slices.Chain.{Chain}
use Rattle.organelles.specs.declared.slices.Chain.TheVariants.{Up, Down}
use Rattle.organelles.specs.declared.slices.Programmed.{Programmed}
use Rattle.organelles.specs.declared.slices.SliceNet.{SliceNet}
use Rattle.path_form.specs.declared.path.Cast.{Cast}
use Rattle.path_form.specs.declared.path.Lift.{Lift}
use Rattle.path_form.specs.declared.path.Piece.{Piece}
use Rattle.path_form.specs.Nets.{nets_among}

-- Each fact below is a proposition, as a ghost field wants it: a number, an order or a test.

-- the nets of those pads that are words, or of those that are signals
abbrev pub entries_of : Bool → List Pad → List NetId → List NetId
entries_of word (pad ∷ pads) (id ∷ ids) =
    if not (pad.width == 0) then (if word then id ∷ entries_of word pads ids else entries_of word pads ids)
    else (if word then entries_of word pads ids else id ∷ entries_of word pads ids)
entries_of word _ _ = []

-- the end of a chain, an input of the slice that takes the value
abbrev pub chain_to : Chain → NetId
chain_to (Up from to) = to
chain_to (Down from to) = to

-- the net whose value it takes, in the slice below or above
abbrev pub chain_from : Chain → NetId
chain_from (Up from to) = from
chain_from (Down from to) = from

-- there is an input
abbrev pub is_input : Option Part → Bool
is_input (Some Input) = true
is_input _ = false

-- a latch has its data
abbrev pub is_fed : Part → Bool
is_fed (Latch phase None) = false
is_fed _ = true

-- how often a net is among these
abbrev pub times : ℕ → List NetId → ℕ
times n [] = 0
times n (id ∷ ids) = (if id.0 == n then 1 else 0) + times n ids

-- each input of a net is exactly once among these, and they are inputs
abbrev pub AreInputs : List Part → List NetId → Type 0
AreInputs net ids =
    All (λ (id : NetId). is_input (slice_get net id.0) ≡ true) ids
    × ((n : ℕ) → is_input (slice_get net n) ≡ true → times n ids ≡ 1)

-- a latch's data is a gate, or one of these inputs
abbrev pub takes_pad : List Part → List NetId → Part → Bool
takes_pad net pads (Latch p (Some m)) = if is_input (slice_get net m.0) then nat_lt 0 (times m.0 pads) else true
takes_pad net pads _ = true

-- no two are the same
abbrev pub AreApart : List NetId → Type 0
AreApart ids = (n : ℕ) → times n ids ≤ 1

-- the piece has this net
abbrev pub is_in : Spot → Piece → Bool
is_in n p = (p.band == n.band) && (nat_le p.first n.net && nat_le n.net p.last)

-- how many nets stand before n, in an order that has it
abbrev pub rank : List Piece → Spot → ℕ
rank [] n = 0
rank (p ∷ ps) n = if is_in n p then n.net - p.first else (suc p.last - p.first) + rank ps n

-- what n depends on stands before it
abbrev pub stands_behind : List Piece → Spot → Element → Bool
stands_behind order n (Nor inputs) = list_all (λ m. nat_lt (rank order m) (rank order n)) inputs
stands_behind order n (Joined m) = nat_lt (rank order m) (rank order n)
stands_behind order n _ = true

-- a pad is a signal, or a word of w bits
abbrev pub PadsFit : ℕ → List Pad → Type 0
PadsFit w pads = All (λ (p : Pad). p.width ≢ 0 → p.width ≡ w) pads

-- the net of each pad is one of the control, or one of the slices
abbrev pub EntriesFit : List Part → SliceNet → List Pad → List NetId → Type 0
EntriesFit control s pads ids =
    (length ids ≡ length pads) × All (λ (id : NetId). id.0 < length control) (entries_of false pads ids)
    × All (λ (id : NetId). id.0 < length s.net) (entries_of true pads ids)

-- how many pieces have a net: one where there is a net, and none elsewhere
abbrev pub pieces_of : Option Element → ℕ
pieces_of None = 0
pieces_of (Some e) = 1

-- all that gives the control its inputs: pads and lifts
abbrev pub control_ends : List NetId → List Lift → List NetId
control_ends pads lifts = pads ++ map (λ (l : Lift). l.control) lifts

-- all that gives a slice its inputs: pads, chains, casts and programs
abbrev pub slice_ends : List NetId → SliceNet → List Cast → List NetId
slice_ends pads s casts =
    pads ++ (map chain_to s.chains
    ++ (map (λ (c : Cast). c.slice) casts ++ map (λ (p : Programmed). p.net) s.programs))

pub record IsPath (w : ℕ) (control : List Part) (s : SliceNet) (casts : List Cast) (lifts : List Lift)
    (pads : Pads) (inputs outputs : List NetId) (order : List Piece) : Type 0 where
  pub width : (0 < w) × (w ≤ 64)
  pub pads_fit : PadsFit w pads.inputs × PadsFit w pads.outputs
  pub entries_fit : EntriesFit control s pads.inputs inputs × EntriesFit control s pads.outputs outputs
  pub chains_in : All (λ c. ((chain_from c).0 < length s.net) × ((chain_to c).0 < length s.net)) s.chains
  pub ends_differ : All (λ c. (chain_from c).0 ≢ (chain_to c).0) s.chains
  pub casts_in : All (λ (c : Cast). c.control.0 < length control) casts
  pub lifts_in : All (λ (l : Lift). (l.slice < w) × (l.from.0 < length s.net)) lifts
  pub fed : All (λ part. is_fed part ≡ true) control × All (λ part. is_fed part ≡ true) s.net
  pub control_inputs : AreInputs control (control_ends (entries_of false pads.inputs inputs) lifts)
  pub slice_inputs : AreInputs s.net (slice_ends (entries_of true pads.inputs inputs) s casts)
  pub latches : All (λ part. takes_pad control (entries_of false pads.inputs inputs) part ≡ true) control
      × All (λ part. takes_pad s.net (entries_of true pads.inputs inputs) part ≡ true) s.net
  pub apart : AreApart (entries_of false pads.inputs inputs ++ entries_of false pads.outputs outputs)
      × AreApart (entries_of true pads.inputs inputs ++ entries_of true pads.outputs outputs)
  pub once : (n : Spot) → count_by (is_in n) order ≡ pieces_of (nets_among w control s casts lifts n)
  pub ordered : (n : Spot) (e : Element) → nets_among w control s casts lifts n ≡ Some e
      → stands_behind order n e ≡ true
  pub few_nets : length control + w * (length s.net + length s.chains + length s.programs) < net_limit
  pub few_inputs : gate_inputs control + w * (gate_inputs s.net + length s.chains + length s.programs) < net_limit
