-- The pair that was pushed.
use Rattle.std.proofs.Common.{ℕ, refl, arith, subst}
use Rattle.std.specs.Prelude.{Contains}
use Rattle.layer_strips.proofs.Meeting.{grows_one, has_one}
use Rattle.layer_strips.proofs.pairs.meet.Goals as goal

pub returns-in_ok-push-clause-grows : goal.returns-in_ok-push-clause-grows
returns-in_ok-push-clause-grows c =
    let a = c.min-a.result in
    let b = c.max-b.result in
    grows_one c.args.strips.now c.args.pairs.now c.push.new.self (a, b) c.in_ok-push.ensures.ok (record {
      order = omega arith;
      inside = omega arith;
      touch = c.if-touches.ensures.0 refl;
    })

pub returns-in_ok-push-clause-joins : goal.returns-in_ok-push-clause-joins
returns-in_ok-push-clause-joins c = λ l t.
    subst (λ (p : ℕ × ℕ). Contains c.push.new.self p) (λ z. (c.min-a.ensures z, c.max-b.ensures z))
    (has_one c.args.pairs.now c.push.new.self (c.min-a.result, c.max-b.result) c.in_ok-push.ensures.ok)
