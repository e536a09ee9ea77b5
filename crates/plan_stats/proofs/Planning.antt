-- A plan of transfers that show what a program shows is one of a chip of the program.
use Rattle.std.proofs.Common.{◌+◌, ◌*◌, ◌∙◌, ◌∷◌, ap, subst, arith, length, Result, Ok, Err, IfOk, suc}
use Rattle.std.specs.Prelude.{max, replicate, sum_by}
use Rattle.lam_geom.specs.Extent.{IsAtMost}
use Rattle.lam_geom.specs.Squares.{covered}
use Rattle.mp_base.specs.declared.refusal.NoMemory.{NoMemory}
use Rattle.mp_program.specs.declared.program.Program.{Program}
use Rattle.rtl_form.specs.declared.rtl.Rtl.{Rtl}
use Rattle.track_assign.specs.declared.packing.Tracks.{Tracks}
use Rattle.process_plan.specs.Same.{IsSame}
use Rattle.cif_emit.specs.Emittable.{IsEmittable, chip_rects}
use Rattle.compile_laws.specs.Laws.{IsBounded, IsSmallPlan, MakesChips}
use Rattle.path_plan.specs.declared.planning.Planned.{Planned}
use Rattle.path_plan.specs.Plans.{IsMeasured}
use Rattle.plan_stats.specs.Stats.{IsPlanOf}

plan_of : (p : Program) (r : Rtl) (planned : Planned) → MakesChips p → IsSame p r
    → IsSmallPlan r (chip_rects planned.chip) (planned.chip).labels
    → IsBounded r (chip_rects planned.chip) (planned.chip).labels
    → IsEmittable (chip_rects planned.chip) (planned.chip).labels → IsMeasured r planned → IsPlanOf p planned
plan_of p r planned make same plan bounded emittable measured = record {
  emittable = emittable;
  makes = λ commands emitted. make r (chip_rects planned.chip) (planned.chip).labels commands same plan bounded emitted;
  fabric = measured.fabric;
  framed = measured.framed;
  extent = subst
      (λ w. IsAtMost (covered (chip_rects planned.chip)) (20 * planned.columns + 7 * length (planned.chip).labels + 43)
      (max (12 * planned.rows + 36 * suc w) (60 * length (planned.chip).labels)))
      same.width measured.extent;
  columns = measured.columns;
  narrow = let n = measured.narrow in let c = same.cost in omega (arith, n, c);
  used = measured.used;
  groups = measured.groups;
  control = measured.control;
  slice = measured.slice;
  alike = measured.alike ∙ ap (λ w. measured.control ∷ replicate w measured.slice) same.width;
  rows = measured.rows ∙ ap (λ w. sum_by (λ (t : Tracks). t.rows) planned.groups + suc w) same.width;
  ends = measured.ends;
}

pub planned : (p : Program) (r : Rtl) (result : Result Planned NoMemory) → MakesChips p → IsSame p r
    → IfOk result (λ planned. IsSmallPlan r (chip_rects planned.chip) (planned.chip).labels)
    → IfOk result (λ planned. IsBounded r (chip_rects planned.chip) (planned.chip).labels)
    → IfOk result (λ planned. IsEmittable (chip_rects planned.chip) (planned.chip).labels)
    → IfOk result (IsMeasured r) → IfOk result (IsPlanOf p)
planned p r (Ok plan) make same small bounded emittable measured =
    plan_of p r plan make same small bounded emittable measured
planned p r (Err e) make same small bounded emittable measured = tt
