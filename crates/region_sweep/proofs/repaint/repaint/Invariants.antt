-- The runs so far are repainted.
use Rattle.std.proofs.Common.{ℕ, ◌≡◌}
use Rattle.kept_runs.specs.Kept.{width_of}
use Rattle.region_sweep.specs.Repainting.{HaveColours}
use Rattle.region_sweep.proofs.Repainting.{IsRepainting}
use Rattle.region_sweep.proofs.repaint.repaint.Given as goal

abbrev pub invariant-loop-run : goal.invariant-loop-run
invariant-loop-run l = record {
  cells : width_of l.kept ≡ width_of l.fn.kept;
  painted : (colour : ℕ → ℕ) → HaveColours colour l.runs
      → IsRepainting colour l.fn.kept l.kept l.runs l.run-index;
}
