-- Event by event.
use Rattle.std.proofs.Common.{sym, subst, ap, arith}
use Rattle.std.specs.BTreeMap.{get, is_at}
use Rattle.std.specs.Map.{lookup}
use Rattle.std.specs.Ordering.{int_cmp}
use Rattle.layer_strips.specs.Sweep.{IsSchedule}
use Rattle.layer_strips.proofs.Meeting.{grows_none, grows_more}
use Rattle.layer_strips.proofs.Rows.{is_row, does_one, none_yet, catches}
use Rattle.layer_strips.proofs.pairs.sweep.Goals as goal

pub loop-event-init : goal.loop-event-init
loop-event-init c =
    let s = subst (IsSchedule c.args.layer c.args.part c.args.strips.now)
    (sym c.as_slice-event-items.ensures.value) c.in_ok-events.ensures in (
      none_yet c.args.layer c.args.part c.args.strips.now c.requires.solid c.requires.apart
          c.as_slice-event-items.result.now s (get int_cmp c.new-live.result)
          c.args.pairs.now (λ k. ap (lookup (is_at (int_cmp k))) c.new-live.ensures.empty),
      grows_none c.args.strips.now c.args.pairs.now,
    )

pub step-requires-clause-row : goal.step-requires-clause-row
step-requires-clause-row c =
    let s = subst (IsSchedule c.args.layer c.args.part c.args.strips.now)
    (sym c.as_slice-event-items.ensures.value) c.in_ok-events.ensures in
    is_row c.args.layer c.args.part c.args.strips.now c.requires.solid c.requires.apart
    c.as_slice-event-items.result.now s c.loop-event.event-index
    (get int_cmp c.loop-event.live) c.loop-event.pairs c.loop-event.auto.event-index-end c.loop-event.invariant.0

pub loop-event-preserved : goal.loop-event-preserved
loop-event-preserved c =
    let s = subst (IsSchedule c.args.layer c.args.part c.args.strips.now)
    (sym c.as_slice-event-items.ensures.value) c.in_ok-events.ensures in
    let d = does_one c.args.layer c.args.part c.args.strips.now c.requires.solid c.requires.apart
    c.as_slice-event-items.result.now s c.loop-event.event-index
    (get int_cmp c.loop-event.live)
    (get int_cmp c.step.new.live) c.loop-event.pairs c.step.new.pairs c.loop-event-test.true c.loop-event.invariant.0
    c.in_ok-step.ensures in (
      d.0,
      grows_more c.args.strips.now c.args.pairs.now c.loop-event.pairs c.step.new.pairs c.loop-event.invariant.1
          d.1,
    )

pub returns-clause-grows : goal.returns-clause-grows
returns-clause-grows c = c.loop-event.invariant.1

pub returns-clause-catches : goal.returns-clause-catches
returns-clause-catches c =
    let s = subst (IsSchedule c.args.layer c.args.part c.args.strips.now)
    (sym c.as_slice-event-items.ensures.value) c.in_ok-events.ensures in
    catches c.args.layer c.args.part c.args.strips.now c.requires.solid c.requires.apart
    c.as_slice-event-items.result.now s c.loop-event.event-index
    (get int_cmp c.loop-event.live) c.loop-event.pairs (omega arith) c.loop-event.invariant.0
