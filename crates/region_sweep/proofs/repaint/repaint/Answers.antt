-- Run by run.
use Rattle.std.proofs.Common.{◌≡◌, ◌∙◌, length, refl, subst, arith}
use Rattle.strip_rows.specs.Missing.{no_run}
use Rattle.region_sweep.proofs.Repainting.{IsRepainting, repainting_none, repainting_more, repainted_all}
use Rattle.region_sweep.proofs.repaint.repaint.Goals as goal

-- src/repaint.rt
pub loop-run-init : goal.loop-run-init
loop-run-init c =
    record { cells = refl; painted = λ colour h. repainting_none colour c.args.kept.now c.args.runs.now }

-- src/repaint.rt
pub paint-requires-clause-within : goal.paint-requires-clause-within
paint-requires-clause-within c =
    let right = c.requires.within c.loop-run.run-index no_run c.loop-run-test.true in
    let cells = c.loop-run.invariant.cells in
    omega arith

-- src/repaint.rt
pub loop-run-preserved : goal.loop-run-preserved
loop-run-preserved c =
    let inv = c.loop-run.invariant in
    record {
      cells = c.paint.ensures.cells ∙ inv.cells;
      painted = λ colour h.
          repainting_more colour c.args.kept.now c.loop-run.kept c.paint.new.self c.args.runs.now
          c.loop-run.run-index c.loop-run-test.true h (inv.painted colour h) c.paint.ensures.inside
          c.paint.ensures.beside;
    }

-- src/repaint.rt
pub returns : goal.returns
returns c =
    let inv = c.loop-run.invariant in
    let e : c.loop-run.run-index ≡ length c.args.runs.now = omega arith in
    record {
      painted = λ colour h.
          repainted_all colour c.args.kept.now c.loop-run.kept c.args.runs.now
          (subst (IsRepainting colour c.args.kept.now c.loop-run.kept c.args.runs.now) e
          (inv.painted colour h));
      cells = inv.cells;
    }
