use Rattle.std.proofs.Common.{◌≡◌, length, arith, refl}
use Rattle.strip_rows.specs.Missing.{no_run}
use Rattle.strip_rows.proofs.Numbering.{begun_more}
use Rattle.strip_rows.proofs.ends.begin_strips.Goals as goal

-- src/ends.rt
pub loop-run-preserved : goal.loop-run-preserved
loop-run-preserved c =
    let n : c.in-Ok.number ≡ length c.loop-run.strips.items = omega (arith, c.in-Ok.ensures) in
    let within = c.requires.known c.loop-run.run-index no_run c.loop-run-test.true in
    let cells = c.loop-run.invariant.cells in
    begun_more c.args.fresh.now c.loop-run.run-index c.args.row c.args.strips.now.items c.loop-run.strips.items
    c.begin_strip.new.strips.items
    c.args.numbers.now.items c.loop-run.numbers.items _ c.in-Ok.number c.requires.apart c.loop-run-test.true
    c.loop-run.invariant
    c.in_ok-begin_strip.ensures n (omega arith) refl
