-- Paths whose chips are planned, and their fabrics.
use Rattle.std.specs.Prelude.{◌≡◌, ◌≤◌, ◌+◌, ℕ, List, ◌∷◌, length, replicate}
use Rattle.mp_base.specs.declared.limits.TheConstants.{WEIGHT_LIMIT}
use Rattle.switch_net.specs.declared.network.Network.{Network}
use Rattle.switch_net.specs.Pads.{chip_labels}
use Rattle.drawing.specs.Draws.{Point}
use Rattle.fabric.specs.declared.chip.Chip.{Chip}
use Rattle.fabric.specs.Plan.{Plan}
use Rattle.track_assign.specs.declared.packing.Tracks.{Tracks}
use Rattle.rtl_form.specs.declared.rtl.Rtl.{Rtl}
use Rattle.rtl_form.specs.Cost.{cost}
use Rattle.path_form.specs.declared.path.DataPath.{DataPath}
use Rattle.path_form.specs.Showing.{ShowsTransfers}
use Rattle.path_form.specs.Sizes.{IsNarrow, IsWithin}
use Rattle.slice_chip.specs.Unders.{IsLed}
use Rattle.chip_laws.specs.Laws.{names_of}
use Rattle.cif_emit.specs.Emittable.{chip_rects}
use Rattle.path_chips.specs.Planned.{IsPathLaidOut}
use Rattle.framed_chips.specs.Framed.{IsFramed}

-- the path shows the transfers at their pads, in words of their length, and is no larger than what they cost
pub record IsPathFor (rtl : Rtl) (p : DataPath) : Type 0 where
  pub width : p.width ≡ rtl.width
  pub pads : p.pads ≡ rtl.pads
  pub shows : ShowsTransfers rtl p
  pub within : IsWithin (cost rtl) p
  pub narrow : IsNarrow (cost rtl) p

-- the fabric is that of the path with the crossings of its pads, in these rows: those of the control, and those of each
-- slice
pub record AreLaid (p : DataPath) (f : Plan) (groups : List Tracks) : Type 0 where
  pub led : IsLed p f
  pub groups_are : groups ≡ (led.sliced).control ∷ replicate p.width (led.sliced).slices

-- a path within a cost whose chip can be written
pub record IsLight (p : DataPath) : Type 0 where
  pub cost : ℕ
  pub light : cost ≤ WEIGHT_LIMIT
  pub within : IsWithin cost p
  pub narrow : IsNarrow cost p
  pub pads : length (p.pads).inputs + length (p.pads).outputs ≤ cost

-- The chip draws its fabric with a frame of pads, has the labels of the path's pads, and some network draws the path as
-- the chip does, for whatever transfers with these pads.
pub record IsChipFor (p : DataPath) (f : Plan) (chip : Chip) : Type 0 where
  pub fabric : chip.fabric ≡ f
  pub framed : IsFramed chip
  pub named : names_of chip.labels ≡ chip_labels p.pads
  pub network : Network
  pub place : Point → ℕ
  pub laid_out : (rtl : Rtl) → p.pads ≡ rtl.pads → IsPathLaidOut rtl p network place (chip_rects chip) chip.labels
