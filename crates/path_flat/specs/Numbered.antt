-- A flat net in which each net of a path has its number.
use Rattle.std.specs.Prelude.{◌≡◌, ◌<◌, ◌≤◌, ◌+◌, ◌-◌, ◌*◌, ℕ, suc, List, [], ◌∷◌, Some, None, Bool, true}
use Rattle.std.specs.Prelude.{if◌then◌else◌, nat_lt, length, map, slice_get}
use Rattle.nor_net.specs.declared.net.NetId.{NetId}
use Rattle.nor_net.specs.declared.net.Part.{Part}
use Rattle.nor_net.specs.declared.net.Part.TheVariants.{Input, Gate, Latch}
use Rattle.nor_net.specs.Elements.{Spot, Element, Given, Nor, Latched, Joined, Low}
use Rattle.nor_net.specs.Shape.{IsNet, gate_inputs}
use Rattle.path_form.specs.declared.path.DataPath.{DataPath}
use Rattle.path_form.specs.declared.path.Piece.{Piece}
use Rattle.path_form.specs.Flat.{is_own}
use Rattle.path_form.specs.Shape.{rank}
use Rattle.path_form.specs.Showing.{path_nets}

-- how many nets an order has
abbrev pub total : List Piece → ℕ
total [] = 0
total (p ∷ ps) = (suc p.last - p.first) + total ps

-- what stands for an element, with the data of a latch if it was fed
abbrev pub StandsFor : List Part → (Spot → NetId) → Bool → Spot → Element → Type 0
StandsFor flat of fed n Given = slice_get flat (of n).0 ≡ Some Input
StandsFor flat of fed n (Nor inputs) = slice_get flat (of n).0 ≡ Some (Gate (map of inputs))
StandsFor flat of fed n (Latched phase m) =
    slice_get flat (of n).0 ≡ Some (Latch phase (if fed then Some (of m) else None))
StandsFor flat of fed n (Joined m) = of n ≡ of m
StandsFor flat of fed n Low =
    (z : NetId) × (slice_get flat (of n).0 ≡ Some (Gate (z ∷ []))) × (slice_get flat z.0 ≡ Some (Gate []))

-- an input or a latch with this number stands for a net among the first t of the path
abbrev pub IsMeant : DataPath → ℕ → (Spot → NetId) → ℕ → Part → Type 0
IsMeant p t of k Input = (n : Spot) × (rank p.order n < t) × (path_nets p n ≡ Some Given) × ((of n).0 ≡ k)
IsMeant p t of k (Latch phase s) =
    (n m : Spot) × (rank p.order n < t) × (path_nets p n ≡ Some (Latched phase m)) × ((of n).0 ≡ k)
IsMeant p t of k (Gate inputs) = Unit {0}

-- the first t nets of a path have numbers, and of these the latches among the first u are fed
pub record IsNumberedTo (p : DataPath) (t u : ℕ) (flat : List Part) (of : Spot → NetId) : Type 0 where
  pub ordered : (m n : Spot) → is_own (path_nets p m) ≡ true → is_own (path_nets p n) ≡ true
      → rank p.order m < rank p.order n → rank p.order n < t → (of m).0 < (of n).0
  pub each : (n : Spot) (e : Element) → path_nets p n ≡ Some e → rank p.order n < t
      → StandsFor flat of (nat_lt (rank p.order n) u) n e
  pub inside : (n : Spot) → rank p.order n < t → (of n).0 < length flat
  pub meant : (k : ℕ) (part : Part) → slice_get flat k ≡ Some part → IsMeant p t of k part

-- how many nets and gate inputs a flat net may have
pub record IsFew (p : DataPath) (flat : List Part) : Type 0 where
  pub nets : length flat ≤ length p.control + p.width * (length p.slices.net + length p.slices.chains + length
      p.slices.programs)
  pub inputs : gate_inputs flat ≤ gate_inputs p.control + p.width *
      (gate_inputs p.slices.net + length p.slices.chains + length p.slices.programs)

-- all nets of a path have numbers, and no latch is fed; the parts of the path stand where they may
pub record IsNumbered (p : DataPath) (flat : List Part) (of : Spot → NetId) : Type 0 where
  pub shapes : IsNet p.control × IsNet p.slices.net
  pub numbered : IsNumberedTo p (total p.order) 0 flat of
  pub few : IsFew p flat

-- all nets of a path have numbers, and all latches are fed; the parts of the path stand where they may
pub record IsWhole (p : DataPath) (flat : List Part) (of : Spot → NetId) : Type 0 where
  pub shapes : IsNet p.control × IsNet p.slices.net
  pub numbered : IsNumberedTo p (total p.order) (total p.order) flat of
  pub few : IsFew p flat
