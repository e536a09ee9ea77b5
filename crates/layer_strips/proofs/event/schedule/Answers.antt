-- Strip by strip.
use Rattle.std.proofs.Common.{rules, arith, sym, subst, ◌≡◌}
use Rattle.std.proofs.lemmas.Fn.{always_returns_same}
use Rattle.layer_strips.specs.Sweep.{AreEvents}
use Rattle.layer_strips.proofs.Scheduling.{events_more, is_schedule}
use Rattle.layer_strips.proofs.event.schedule.Goals as goal

pub loop-index-preserved : goal.loop-index-preserved
loop-index-preserved c =
    events_more c.args.layer c.args.part c.args.strips.now c.loop-index.index c.loop-index.events c.add.new.events
    c.loop-index-test.true
    c.in_ok-add.ensures c.loop-index.invariant

pub returns : goal.returns
returns c =
    is_schedule c.args.layer c.args.part c.args.strips.now c.loop-index.index c.into_vec-events.result.items
    c.sort_by_key.new.self.items
    (omega arith) (omega arith) c.in_ok-sort_by_key.ensures.permutation
    (c.in_ok-sort_by_key.ensures.sorted (λ e. e.time)
    (always_returns_same _ (λ a r. r ≡ a.0.now.time) _ (λ a r q k. search rules)))
    (subst (AreEvents c.args.layer c.args.part c.args.strips.now c.loop-index.index)
    (sym c.into_vec-events.ensures) c.loop-index.invariant)
