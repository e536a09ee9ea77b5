-- The marks of a path in the making.
use Rattle.std.specs.Prelude.{◌<◌, ◌≤◌, List, [], ◌∷◌, Contains, length}
use Rattle.nor_net.specs.declared.net.NetId.{NetId}
use Rattle.organelles.specs.declared.slices.Chain.TheVariants.{Up, Down}
use Rattle.path_form.specs.declared.path.Cast.{Cast}
use Rattle.path_form.specs.declared.path.Lift.{Lift}
use Rattle.path_order.specs.declared.order.Mark.{Mark}
use Rattle.path_order.specs.Order.{start}
use Rattle.path_order.specs.Marked.{RiseTo}
use Rattle.datapath_making.specs.declared.making.Making.{Making}

-- the last of these marks, or the one before them
abbrev pub last_from : Mark → List Mark → Mark
last_from from [] = from
last_from from (to ∷ marks) = last_from to marks

abbrev pub last_mark : Making → Mark
last_mark m = last_from start m.marks

-- The marks rise, and what joins nets so far lies between them as an order wants it.
pub record AreMarks (m : Making) : Type 0 where
  pub rise : RiseTo (last_mark m) start m.marks
  pub slices_in : (last_mark m).slices ≤ length m.slices.net
  pub control_in : (last_mark m).control ≤ length m.control
  pub ups : (from to : NetId) → Contains m.slices.chains (Up from to) → (k : Mark) → Contains m.marks k
      → to.0 < k.slices → from.0 < k.slices
  pub downs : (from to : NetId) → Contains m.slices.chains (Down from to)
      → (k : Mark) × Contains m.marks k × (from.0 < k.slices) × (k.slices ≤ to.0)
  pub casts : (c : Cast) → Contains m.casts c
      → (k : Mark) × Contains m.marks k × (c.control.0 < k.control) × (k.slices ≤ c.slice.0)
  pub lifts : (l : Lift) → Contains m.lifts l → (k : Mark) → Contains m.marks k
      → l.control.0 < k.control → l.from.0 < k.slices
