-- The fabric of a data path.
use Rattle.std.specs.Prelude.{◌≡◌, ◌+◌, ◌≤◌, ◌∷◌, length, replicate, ◌*◌}
use Rattle.mp_base.specs.declared.limits.TheConstants.{WEIGHT_LIMIT}
use Rattle.nor_net.specs.Shape.{gate_inputs}
use Rattle.path_form.specs.declared.path.DataPath.{DataPath}
use Rattle.slice_chip.specs.Unders.{IsLed}
use Rattle.path_laying.specs.declared.laying.Laid.{Laid}

-- how large a path may be that is laid; that of a program's transfers is
pub record IsSmallPath (p : DataPath) : Type 0 where
  pub control : length p.control ≤ 4 * WEIGHT_LIMIT
  pub slices : length p.slices.net ≤ 4 * WEIGHT_LIMIT
  pub joints : length p.casts + length p.lifts + length p.slices.chains ≤ 4 * WEIGHT_LIMIT
  pub programs : length p.slices.programs ≤ 4 * WEIGHT_LIMIT
  pub control_inputs : gate_inputs p.control ≤ 8 * WEIGHT_LIMIT
  pub slice_inputs : gate_inputs p.slices.net ≤ 8 * WEIGHT_LIMIT

-- the fabric is that of the path with the crossings of its pads, in the rows that are told for the control and for
-- each slice
pub record IsLaid (p : DataPath) (laid : Laid) : Type 0 where
  pub led : IsLed p laid.fabric
  pub groups : laid.groups ≡ led.sliced.control ∷ replicate p.width led.sliced.slices
