-- How much was added to a path.
use Rattle.std.specs.Prelude.{◌<◌, ◌≤◌, ◌+◌, ◌*◌, ℕ, Option, Some, None, length}
use Rattle.std.specs.List.{sum_by}
use Rattle.nor_net.specs.declared.net.NetId.{NetId}
use Rattle.nor_net.specs.Shape.{gate_inputs, net_limit}
use Rattle.path_form.specs.Sizes.{active}
use Rattle.datapath_making.specs.declared.making.Making.{Making}

-- the casts and the lifts
abbrev pub crossings : Making → ℕ
crossings m = length m.casts + length m.lifts

-- what may need a column of its own in a slice
abbrev pub columns : Making → ℕ
columns m = sum_by active m.slices.net + (length m.slices.chains + length m.slices.programs)
    + (length m.casts + length m.lifts)

-- at most this cost was spent in the slices: a net, two inputs of gates and a column for each unit; and at most so
-- many crossings were added
pub record Spends (cost crossed : ℕ) (old new : Making) : Type 0 where
  pub nets : length new.slices.net ≤ length old.slices.net + cost
  pub inputs : gate_inputs new.slices.net ≤ gate_inputs old.slices.net + 2 * cost
  pub columns : columns new ≤ columns old + cost
  pub crossings : crossings new ≤ crossings old + crossed

-- there is room for what has this cost
pub record HasRoom (cost : ℕ) (m : Making) : Type 0 where
  pub nets : length m.slices.net + cost < net_limit
  pub inputs : gate_inputs m.slices.net + 2 * cost < net_limit

-- what the cast of reset costs, which is made once
abbrev pub cast_cost : Option NetId → ℕ
cast_cost None = 1
cast_cost (Some id) = 0
