-- The nets of w slices, joined by chains.
use Rattle.std.specs.Prelude.{◌<◌, ◌≤◌, ℕ, zero, suc, List, [], ◌∷◌, Option, Some, None, if◌then◌else◌, ◌==◌, nat_lt}
use Rattle.std.specs.Prelude.{slice_get}
use Rattle.std.specs.Option.{option_or}
use Rattle.std.specs.Int.{bit_at}
use Rattle.mp_base.specs.declared.value.Trit.{Trit}
use Rattle.nor_net.specs.declared.net.Part.{Part}
use Rattle.nor_net.specs.declared.net.Part.TheVariants.{Input, Gate, Latch}
use Rattle.nor_net.specs.Elements.{Spot, Element, Given, Nor, Joined, Low, Nets, spot, element_of}
use Rattle.nor_net.specs.Settled.{Obeys}
use Rattle.organelles.specs.declared.slices.Chain.{Chain}
use Rattle.organelles.specs.declared.slices.Chain.TheVariants.{Up, Down}
use Rattle.organelles.specs.declared.slices.Programmed.{Programmed}
use Rattle.organelles.specs.declared.slices.SliceNet.{SliceNet}

-- what f finds first in a list
abbrev pub first_some : {A Y : Type 0} → (A → Option Y) → List A → Option Y
first_some f [] = None
first_some f (x ∷ xs) = option_or (f x) (first_some f xs)

-- Slice k stands in band k + 1. How a chain gives slice k its value at n, of w slices; the end that is open is 0.
abbrev pub chain_element : ℕ → ℕ → ℕ → Chain → Option Element
chain_element w k n (Up from to) = if to.0 == n then Some (if k == 0 then Low else Joined (spot k from)) else None
chain_element w k n (Down from to) =
    if to.0 == n then Some (if suc k == w then Low else Joined (spot (suc (suc k)) from)) else None

-- how a programmed net gets its bit in slice k: a 1 is a gate without inputs
abbrev pub program_element : ℕ → ℕ → Programmed → Option Element
program_element k n p = if p.net.0 == n then Some (if bit_at p.bits k == 1 then Nor [] else Low) else None

-- how an input of slice k gets its value
abbrev pub slice_input : ℕ → SliceNet → ℕ → ℕ → Option Element
slice_input w s k n =
    option_or (first_some (chain_element w k n) s.chains) (first_some (program_element k n) s.programs)

-- how a net of slice k gets its value; inputs that nothing joins are given theirs
abbrev pub slice_part : ℕ → SliceNet → ℕ → ℕ → Option Part → Option Element
slice_part w s k n None = None
slice_part w s k n (Some Input) = option_or (slice_input w s k n) (Some Given)
slice_part w s k n (Some (Gate inputs)) = element_of (suc k) (Gate inputs)
slice_part w s k n (Some (Latch phase source)) = element_of (suc k) (Latch phase source)

-- w slices in bands 1 to w
abbrev pub band_nets : ℕ → SliceNet → ℕ → ℕ → Option Element
band_nets w s zero n = None
band_nets w s (suc k) n = if nat_lt k w then slice_part w s k n (slice_get s.net n) else None

-- the same by places
abbrev pub slice_nets : ℕ → SliceNet → Nets
slice_nets w s n = band_nets w s n.band n.net

-- each net of w slices from this number on has what its gate, chain or programmed bit gives it
abbrev pub ObeysFrom : ℕ → SliceNet → ℕ → (Spot → Trit) → Type 0
ObeysFrom w s first v = (k n : ℕ) → k < w → first ≤ n
    → Obeys v (record { band = suc k; net = n }) (slice_nets w s (record { band = suc k; net = n }))
