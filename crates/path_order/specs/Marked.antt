-- When an order along marks is that of a path.
use Rattle.std.specs.Prelude.{◌≡◌, ◌<◌, ◌≤◌, ℕ, List, [], ◌∷◌, Some, true, Contains, length}
use Rattle.std.specs.List.{count_by}
use Rattle.nor_net.specs.declared.net.Part.{Part}
use Rattle.nor_net.specs.Elements.{Spot, Element}
use Rattle.nor_net.specs.Shape.{IsNet, IsFed}
use Rattle.organelles.specs.declared.slices.Chain.TheVariants.{Up, Down}
use Rattle.nor_net.specs.declared.net.NetId.{NetId}
use Rattle.organelles.specs.declared.slices.SliceNet.{SliceNet}
use Rattle.path_form.specs.declared.path.Cast.{Cast}
use Rattle.path_form.specs.declared.path.Lift.{Lift}
use Rattle.path_form.specs.Nets.{nets_among}
use Rattle.path_form.specs.Shape.{is_in, pieces_of, stands_behind}
use Rattle.path_order.specs.declared.order.Mark.{Mark}
use Rattle.path_order.specs.Order.{order_from, start}

-- each mark lies at or behind the one before, and the last is the end
abbrev pub RiseTo : Mark → Mark → List Mark → Type 0
RiseTo end from [] = from ≡ end
RiseTo end from (to ∷ marks) = (from.slices ≤ to.slices) × (from.control ≤ to.control) × RiseTo end to marks

-- What joins nets, between marks: a chain up comes from no net behind a mark that its end stands before; the end of a
-- chain down, or of a cast, and the net that it takes its value from have a mark between them; and a lift's net stands
-- before each mark that its end stands before.
pub record IsMarked (w : ℕ) (control : List Part) (s : SliceNet) (casts : List Cast) (lifts : List Lift)
    (marks : List Mark) : Type 0 where
  pub rise : RiseTo (record { slices = length s.net; control = length control }) start marks
  pub ups : (from to : NetId) → Contains s.chains (Up from to) → (m : Mark) → Contains marks m
      → to.0 < m.slices → from.0 < m.slices
  pub downs : (from to : NetId) → Contains s.chains (Down from to)
      → (m : Mark) × Contains marks m × (from.0 < m.slices) × (m.slices ≤ to.0)
  pub cast_marks : (c : Cast) → Contains casts c
      → (m : Mark) × Contains marks m × (c.control.0 < m.control) × (m.slices ≤ c.slice.0)
  pub lift_marks : (l : Lift) → Contains lifts l → (l.slice < w)
      × ((m : Mark) → Contains marks m → l.control.0 < m.control → l.from.0 < m.slices)

-- the order has each net once, behind those that it depends on
abbrev pub OrdersAreWhole : Type 0
OrdersAreWhole =
    (w : ℕ) (control : List Part) (s : SliceNet) (casts : List Cast) (lifts : List Lift) (marks : List Mark)
    → IsNet control → IsFed control → IsNet s.net → IsFed s.net → IsMarked w control s casts lifts marks
    → ((n : Spot) → count_by (is_in n) (order_from w start marks) ≡ pieces_of (nets_among w control s casts lifts n))
    × ((n : Spot) (e : Element) → nets_among w control s casts lifts n ≡ Some e
    → stands_behind (order_from w start marks) n e ≡ true)
