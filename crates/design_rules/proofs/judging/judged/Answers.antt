use Rattle.std.proofs.Common.{subst, arith, rules}
use Rattle.lam_geom.specs.Squares.{covered}
use Rattle.lam_geom.specs.Rules.{BreaksRule, IsFirstBreach}
use Rattle.rule_tiles.specs.First.{IsFirst}
use Rattle.design_rules.proofs.Numbers.{none_below_more, all_clean, first_breach}
use Rattle.design_rules.proofs.judging.judged.Goals as goal

pub returns-in-Some : goal.returns-in-Some
returns-in-Some c =
    let covers = covered c.args.shapes.now in
    let here = c.in-Some.place in
    let found : IsFirstBreach covers c.loop-rule.rule here.x here.y =
    first_breach covers c.loop-rule.rule here c.loop-rule.invariant
    (subst (IsFirst (BreaksRule covers c.loop-rule.rule)) c.in-Some.is c.in_ok-place.ensures) in search rules

pub loop-rule-preserved : goal.loop-rule-preserved
loop-rule-preserved c =
    let covers = covered c.args.shapes.now in
    none_below_more covers c.loop-rule.rule c.loop-rule.invariant
    (subst (IsFirst (BreaksRule covers c.loop-rule.rule)) c.in_default.is c.in_ok-place.ensures)

pub returns : goal.returns
returns c = all_clean (covered c.args.shapes.now) c.loop-rule.rule (omega arith) c.loop-rule.invariant
