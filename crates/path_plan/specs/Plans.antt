-- The plan of a chip in bit slices.
use Rattle.std.specs.Prelude.{◌≡◌, ◌≤◌, ◌⊎◌, ◌+◌, ◌*◌, ◌∷◌, suc, length, max, Contains, replicate, sum_by}
use Rattle.lam_geom.specs.Extent.{IsAtMost}
use Rattle.lam_geom.specs.Squares.{covered}
use Rattle.fabric.specs.Plan.{IsFabric}
use Rattle.fabric.specs.Switches.Net.{segment}
use Rattle.fabric.specs.declared.thing.Segment.{Segment}
use Rattle.track_assign.specs.declared.packing.Tracks.{Tracks}
use Rattle.rtl_form.specs.declared.rtl.Rtl.{Rtl}
use Rattle.rtl_form.specs.Cost.{cost}
use Rattle.slice_chip.specs.Columns.{IsUsed}
use Rattle.slice_chip.specs.Ends.{IsMarkedAt}
use Rattle.slice_chip.specs.Groups.{AreGroups}
use Rattle.chip_pads.specs.Heights.{HasPort}
use Rattle.framed_chips.specs.Framed.{IsFramed}
use Rattle.cif_emit.specs.Emittable.{chip_rects}
use Rattle.path_plan.specs.declared.planning.Planned.{Planned}

-- The chip draws its fabric and a frame of pads beside it, and the numbers that are told are the fabric's. It has a band
-- for the control and one like all others for each bit, in each the fewest rows. Each segment ends at a mark, and begins
-- at one, or in column 1, where a pad is joined to it. Some line stands in each column between the trunks of ground and
-- power. The chip is no wider than its columns, 7 lambda a pad and 43, and no higher than its bands or its pads.
pub record IsMeasured (rtl : Rtl) (planned : Planned) : Type 0 where
  pub fabric : IsFabric (planned.chip).fabric
  pub framed : IsFramed planned.chip
  pub extent : IsAtMost (covered (chip_rects planned.chip))
      (20 * planned.columns + 7 * length (planned.chip).labels + 43)
      (max (12 * planned.rows + 36 * suc rtl.width) (60 * length (planned.chip).labels))
  pub columns : planned.columns ≡ (planned.chip).fabric.columns
  pub groups : AreGroups (planned.chip).fabric planned.groups
  pub control : Tracks
  pub slice : Tracks
  pub alike : planned.groups ≡ control ∷ replicate rtl.width slice
  pub rows : planned.rows ≡ sum_by (λ (t : Tracks). t.rows) planned.groups + suc rtl.width
  pub narrow : planned.columns ≤ cost rtl + 8
  pub used : IsUsed (planned.chip).fabric
  pub ends : (s : Segment) → Contains (planned.chip).fabric.segments s
      → (IsMarkedAt (planned.chip).fabric s s.first ⊎ HasPort (planned.chip).fabric (segment s))
      × IsMarkedAt (planned.chip).fabric s s.last
