-- What the size of a chip is told of.
use Rattle.std.specs.Prelude.{◌≡◌, ◌⊎◌, ◌≤◌, ◌+◌, ◌*◌, ◌∷◌, ℕ, List, Contains, length, max, replicate, suc, sum_by}
use Rattle.lam_geom.specs.Extent.{IsAtMost}
use Rattle.lam_geom.specs.Squares.{covered}
use Rattle.cif_form.specs.declared.command.Command.{Command}
use Rattle.cif_writer.specs.Texts.{file_text}
use Rattle.mp_program.specs.declared.program.Program.{Program}
use Rattle.mp_program.specs.Weight.{weight}
use Rattle.track_assign.specs.declared.packing.Tracks.{Tracks}
use Rattle.fabric.specs.declared.thing.Segment.{Segment}
use Rattle.fabric.specs.Plan.{IsFabric}
use Rattle.fabric.specs.Switches.Net.{segment}
use Rattle.chip_pads.specs.Heights.{HasPort}
use Rattle.framed_chips.specs.Framed.{IsFramed}
use Rattle.slice_chip.specs.Columns.{IsUsed}
use Rattle.slice_chip.specs.Ends.{IsMarkedAt}
use Rattle.slice_chip.specs.Groups.{AreGroups}
use Rattle.cif_emit.specs.Emittable.{IsEmittable, chip_rects}
use Rattle.cif_emit.specs.Emitted.{AreCommandsOf, IsEmitted}
use Rattle.compile_laws.specs.Laws.{IsSmallChipOf}
use Rattle.path_plan.specs.declared.planning.Planned.{Planned}
use Rattle.plan_stats.specs.Text.{stats_lines}

-- The plan is of a chip of the program: it can be written as commands, and those that draw it have a text that is one.
-- The chip draws its fabric and a frame of pads beside it. The plan's numbers are the fabric's, which has at most so
-- many columns, in each but the trunks of ground and power some line, a group of tracks for the control and the same
-- one for each bit, and no segment longer than its marks, but that of a pad, which is led to the west edge. The chip is
-- no wider than its columns, 7 lambda a pad and 43, and no higher than its bands or its pads.
pub record IsPlanOf (p : Program) (planned : Planned) : Type 0 where
  pub emittable : IsEmittable (chip_rects planned.chip) (planned.chip).labels
  pub makes : (commands : List Command) → IsEmitted (chip_rects planned.chip) (planned.chip).labels commands
      → IsSmallChipOf p (file_text commands)
  pub fabric : IsFabric (planned.chip).fabric
  pub framed : IsFramed planned.chip
  pub extent : IsAtMost (covered (chip_rects planned.chip))
      (20 * planned.columns + 7 * length (planned.chip).labels + 43)
      (max (12 * planned.rows + 36 * suc p.width) (60 * length (planned.chip).labels))
  pub columns : planned.columns ≡ (planned.chip).fabric.columns
  pub narrow : planned.columns ≤ weight p + 8
  pub used : IsUsed (planned.chip).fabric
  pub groups : AreGroups (planned.chip).fabric planned.groups
  pub control : Tracks
  pub slice : Tracks
  pub alike : planned.groups ≡ control ∷ replicate p.width slice
  pub rows : planned.rows ≡ sum_by (λ (t : Tracks). t.rows) planned.groups + suc p.width
  pub ends : (s : Segment) → Contains (planned.chip).fabric.segments s
      → (IsMarkedAt (planned.chip).fabric s s.first ⊎ HasPort (planned.chip).fabric (segment s))
      × IsMarkedAt (planned.chip).fabric s s.last

-- the text tells the weight of the program, and the size of one chip of it
pub record IsStatsOf (p : Program) (text : List ℕ) : Type 0 where
  pub planned : Planned
  pub plans : IsPlanOf p planned
  pub line : text ≡ stats_lines (weight p) planned.columns planned.rows planned.groups

-- the chip of a plan has commands, and their text is a chip of the program
abbrev pub PlansMakeChips : Type 0
PlansMakeChips = (p : Program) (planned : Planned) → IsPlanOf p planned
    → (commands : List Command) × AreCommandsOf planned.chip commands × IsSmallChipOf p (file_text commands)
