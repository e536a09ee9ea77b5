use Rattle.std.proofs.Common.{◌≤◌, subst}
use Rattle.mp_base.specs.declared.limits.TheConstants.{WEIGHT_LIMIT}
use Rattle.mp_checker.proofs.Keeping.{keeps_all, IsWeighed, light, heavy, refuses_first}
use Rattle.mp_checker.proofs.Ruled.{rule_45}
use Rattle.mp_checker.proofs.groups.judge_weight.Goals as goal

pub judge-requires-clause-below : goal.judge-requires-clause-below
judge-requires-clause-below c =
    let p = c.args.program.now in
    let found = subst (IsWeighed p) c.in-Some.is c.in_ok-weight_within.ensures in
    light p (subst (λ w. w ≤ WEIGHT_LIMIT) found.0 found.1) c.requires.kept

pub judge-requires-clause-earliest : goal.judge-requires-clause-earliest
judge-requires-clause-earliest c = rule_45 c.args.program.now _ c.many_exprs.ensures

pub returns-in-None-clause-err : goal.returns-in-None-clause-err
returns-in-None-clause-err c =
    let p = c.args.program.now in
    refuses_first p 44 p.place c.refusal.result c.refusal.ensures c.requires.kept
    (heavy p (subst (IsWeighed p) c.in-None.is c.in_ok-weight_within.ensures))

pub returns-in_ok-judge-in-Some-clause-ok : goal.returns-in_ok-judge-in-Some-clause-ok
returns-in_ok-judge-in-Some-clause-ok c =
    let p = c.args.program.now in
    let found = subst (IsWeighed p) c.in-Some.is c.in_ok-weight_within.ensures in
    (found.0, keeps_all p c.in_ok-judge-in-Some.ensures.ok)
