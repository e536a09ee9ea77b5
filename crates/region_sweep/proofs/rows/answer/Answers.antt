-- Spot by spot.
use Rattle.std.proofs.Common.{sym, subst, arith}
use Rattle.strip_rows.specs.Swept.{strips_of}
use Rattle.region_sweep.specs.Rows.{spot, AreAsked}
use Rattle.region_sweep.proofs.Rowwise.{answered_more}
use Rattle.region_sweep.proofs.rows.answer.Goals as goal

pub loop-next-preserved : goal.loop-next-preserved
loop-next-preserved c =
    let spots = c.args.spots.now in
    let next = c.loop-next.next in
    let strips = c.args.strips.now in
    record {
      answers = λ colour front before.
          answered_more colour (strips_of strips) spots next c.loop-next.found c.number_at.result
          (subst (λ n. AreAsked n spots) (sym c.loop-next.auto.found) c.requires.spots) c.loop-next-test.true
          (c.loop-next.invariant.answers colour front before)
          (c.number_at.ensures colour c.args.row (spot spots next) front c.if-spots-next.true
          (λ i. (spot spots next).cell));
      within = omega arith;
      waiting = λ j l m. c.loop-next.invariant.waiting j (omega arith) m;
    }
