-- The nets of a data path: the control in band 0, and slice k in band k + 1.
use Rattle.std.specs.Prelude.{ℕ, zero, suc, List, Option, Some, None, if◌then◌else◌, ◌==◌, nat_lt, slice_get}
use Rattle.std.specs.Option.{option_or}
use Rattle.nor_net.specs.declared.net.Part.{Part}
use Rattle.nor_net.specs.declared.net.Part.TheVariants.{Input, Gate, Latch}
use Rattle.nor_net.specs.Elements.{Element, Given, Joined, Nets, spot, element_of}
use Rattle.organelles.specs.declared.slices.SliceNet.{SliceNet}
use Rattle.organelles.specs.Slices.{first_some, slice_input}
use Rattle.path_form.specs.declared.path.Cast.{Cast}
use Rattle.path_form.specs.declared.path.Lift.{Lift}

-- how a lift gives the control its value at n
abbrev pub lift_element : ℕ → Lift → Option Element
lift_element n l = if l.control.0 == n then Some (Joined (spot (suc l.slice) l.from)) else None

-- how a cast gives a slice its value at n
abbrev pub cast_element : ℕ → Cast → Option Element
cast_element n c = if c.slice.0 == n then Some (Joined (spot zero c.control)) else None

-- how a net of the control gets its value; inputs that nothing joins are given theirs
abbrev pub control_part : List Lift → ℕ → Option Part → Option Element
control_part lifts n None = None
control_part lifts n (Some Input) = option_or (first_some (lift_element n) lifts) (Some Given)
control_part lifts n (Some (Gate inputs)) = element_of 0 (Gate inputs)
control_part lifts n (Some (Latch phase source)) = element_of 0 (Latch phase source)

-- how a net of slice k gets its value
abbrev pub slice_part : ℕ → SliceNet → List Cast → ℕ → ℕ → Option Part → Option Element
slice_part w s casts k n None = None
slice_part w s casts k n (Some Input) =
    option_or (slice_input w s k n) (option_or (first_some (cast_element n) casts) (Some Given))
slice_part w s casts k n (Some (Gate inputs)) = element_of (suc k) (Gate inputs)
slice_part w s casts k n (Some (Latch phase source)) = element_of (suc k) (Latch phase source)

-- the control, and w slices in bands 1 to w
abbrev pub band_nets : ℕ → List Part → SliceNet → List Cast → List Lift → ℕ → ℕ → Option Element
band_nets w control s casts lifts zero n = control_part lifts n (slice_get control n)
band_nets w control s casts lifts (suc k) n = if nat_lt k w then slice_part w s casts k n (slice_get s.net n) else None

-- the same by places
abbrev pub nets_among : ℕ → List Part → SliceNet → List Cast → List Lift → Nets
nets_among w control s casts lifts n = band_nets w control s casts lifts n.band n.net
