use Rattle.std.proofs.Common.{◌≤◌, arith, subst}
use Rattle.mp_base.specs.declared.limits.TheConstants.{WEIGHT_LIMIT}
use Rattle.written_checker.proofs.Keeping.{keeps_all, IsWeighed, light, heavy, refuses_first, no_repeated_name}
use Rattle.written_checker.proofs.Ruled.{rule_45}
use Rattle.written_checker.proofs.groups.judge_weight.Goals as goal

pub own_names-requires : goal.own_names-requires
own_names-requires c =
    let same = c.same_rules.ensures c.args.program.now c.args.frame.now c.requires.framed in
    λ at b. no_repeated_name c.args.program.now 44 (omega arith) c.requires.kept at ((same.e20 at).0 b)

pub judge-requires-clause-below : goal.judge-requires-clause-below
judge-requires-clause-below c =
    let w = c.args.program.now in
    let found = subst (IsWeighed w) c.in-Some.is c.in_ok-weight_within.ensures in
    light w (subst (λ n. n ≤ WEIGHT_LIMIT) found.0 found.1) c.requires.kept

pub judge-requires-clause-earliest : goal.judge-requires-clause-earliest
judge-requires-clause-earliest c = rule_45 c.args.program.now _ c.in_ok-many_exprs-in-Some.ensures

pub returns-in-None-clause-err : goal.returns-in-None-clause-err
returns-in-None-clause-err c =
    let w = c.args.program.now in
    refuses_first w 44 w.place c.refusal.result c.refusal.ensures c.requires.kept
    (heavy w (subst (IsWeighed w) c.in-None.is c.in_ok-weight_within.ensures))

pub returns-in_ok-judge-in-Some-clause-ok : goal.returns-in_ok-judge-in-Some-clause-ok
returns-in_ok-judge-in-Some-clause-ok c = keeps_all c.args.program.now c.in_ok-judge-in-Some.ensures.ok
