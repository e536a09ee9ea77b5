-- What gives an input of a path its value.
use Rattle.std.specs.Prelude.{ℕ, ◌+◌, ◌-◌, List, [], ◌∷◌, Some, None, if◌then◌else◌, ◌==◌, slice_index_or, map}
use Rattle.std.specs.Int.{bit_at}
use Rattle.nor_net.specs.declared.net.NetId.{NetId}
use Rattle.nor_net.specs.declared.net.Part.{Part}
use Rattle.nor_net.specs.declared.net.Part.TheVariants.{Input, Gate, Latch}
use Rattle.nor_net.specs.Elements.{Element, Given, Nor, Latched, Joined, Low, spot}
use Rattle.organelles.specs.declared.slices.Chain.{Chain}
use Rattle.organelles.specs.declared.slices.Chain.TheVariants.{Up, Down}
use Rattle.organelles.specs.declared.slices.Programmed.{Programmed}
use Rattle.organelles.specs.declared.slices.SliceNet.{SliceNet}
use Rattle.path_form.specs.declared.path.Cast.{Cast}
use Rattle.path_form.specs.declared.path.DataPath.{DataPath}
use Rattle.path_form.specs.declared.path.Lift.{Lift}
use Rattle.path_form.specs.Shape.{chain_to}
use Rattle.path_sources.specs.declared.sources.Source.{Source}
use Rattle.path_sources.specs.declared.sources.Source.TheVariants.{Pad, Below, Above, Bits, Control, Slice}
use Rattle.path_sources.specs.declared.sources.Sources.{Sources}

-- the nets of a band
abbrev pub parts_of : DataPath → ℕ → List Part
parts_of p band = if band == 0 then p.control else p.slices.net

-- the first that isn't a pad
abbrev pub or_source : Source → Source → Source
or_source Pad other = other
or_source (Below from) other = Below from
or_source (Above from) other = Above from
or_source (Bits bits) other = Bits bits
or_source (Control from) other = Control from
or_source (Slice slice from) other = Slice slice from

-- what the first of these that ends in net n gives it
abbrev pub told : {A : Type 0} → (A → NetId) → (A → Source) → ℕ → List A → Source
told end source n [] = Pad
told end source n (x ∷ xs) = or_source (if (end x).0 == n then source x else Pad) (told end source n xs)

-- a chain up gives its end the value of the slice below
abbrev pub chain_source : Chain → Source
chain_source (Up from to) = Below from
chain_source (Down from to) = Above from

-- a program gives its net a bit in each slice
abbrev pub program_source : Programmed → Source
program_source p = Bits p.bits

-- a cast gives each slice a net of the control
abbrev pub cast_source : Cast → Source
cast_source c = Control c.control

-- a lift gives the control a net of one slice
abbrev pub lift_source : Lift → Source
lift_source l = Slice l.slice l.from

-- what gives net n of the control its value
abbrev pub control_source : List Lift → ℕ → Source
control_source lifts n = told (λ (l : Lift). l.control) lift_source n lifts

-- what gives net n of each slice its value
abbrev pub slice_source : SliceNet → List Cast → ℕ → Source
slice_source s casts n =
    or_source (or_source (told chain_to chain_source n s.chains)
    (told (λ (p : Programmed). p.net) program_source n s.programs))
    (told (λ (c : Cast). c.slice) cast_source n casts)

-- what gives a net of a path its value
abbrev pub path_source : DataPath → ℕ → ℕ → Source
path_source p band n = if band == 0 then control_source p.lifts n else slice_source p.slices p.casts n

-- what a table tells of net n
abbrev pub source_at : List Source → ℕ → Source
source_at sources n = slice_index_or sources n Pad

-- the same of a net in a band
abbrev pub source_of : Sources → ℕ → ℕ → Source
source_of sources band n = if band == 0 then source_at sources.control n else source_at sources.slices n

-- how an input in this band of w slices gets its value from its source
abbrev pub source_element : ℕ → ℕ → Source → Element
source_element w band Pad = Given
source_element w band (Below from) = if band == 1 then Low else Joined (spot (band - 1) from)
source_element w band (Above from) = if band == w then Low else Joined (spot (band + 1) from)
source_element w band (Bits bits) = if bit_at bits (band - 1) == 1 then Nor [] else Low
source_element w band (Control from) = Joined (spot 0 from)
source_element w band (Slice slice from) = Joined (spot (slice + 1) from)

-- how a part in this band gets its value, with its source where it is an input
abbrev pub element_in : ℕ → ℕ → Source → Part → Element
element_in w band source Input = source_element w band source
element_in w band source (Gate inputs) = Nor (map (spot band) inputs)
element_in w band source (Latch phase (Some m)) = Latched phase (spot band m)
element_in w band source (Latch phase None) = Given
