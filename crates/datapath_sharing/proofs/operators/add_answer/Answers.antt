use Rattle.std.proofs.Common.{◌≡◌, ◌-◌, ◌<◌, ◌∙◌, ℕ, List, Option, Some, false, get_or, length, sym, subst, arith}
use Rattle.std.specs.Prelude.{slice_get}
use Rattle.std.proofs.lemmas.Result.{on_ok_weaker}
use Rattle.mp_base.specs.declared.op.Op.{Op}
use Rattle.nor_net.specs.declared.net.NetId.{NetId}
use Rattle.rtl_form.specs.Cost.{op_cost}
use Rattle.rtl_form.specs.declared.rtl.RtlExpr.TheVariants.{Apply}
use Rattle.control_nor.specs.Lowering.{Stands}
use Rattle.path_form.specs.declared.path.Lift.{Lift}
use Rattle.datapath_making.specs.Steps.{IsStep, IsTestMade}
use Rattle.datapath_making.proofs.Tables.{some_taken}
use Rattle.datapath_sharing.specs.Sharing.{IsLiftMade, IsShared, key_of, number_in, operator_in, same_key}
use Rattle.datapath_sharing.proofs.Shares.{answer_again, answer_noted, answer_shared, done_three, some_lifts}
use Rattle.datapath_sharing.proofs.Shares.{step_within, tests_cost}
use Rattle.datapath_sharing.proofs.Results.{done_two}
use Rattle.datapath_sharing.proofs.operators.add_answer.Goals as goal

pub net_of-first-requires : goal.net_of-first-requires
net_of-first-requires c =
    let args = c.args.args.now in
    let a = c.requires.asked in
    let r = a.reached c.requires.words 0 0 (some_taken c.args.op (length args) a.count) in
    (r.0, subst (λ (ws : List (Option NetId)). Stands ws (get_or args 0 0) r.0) (sym c.as_slice.ensures) r.1)

pub net_of-last-requires : goal.net_of-last-requires
net_of-last-requires c =
    let args = c.args.args.now in
    let a = c.requires.asked in
    let some = some_taken c.args.op (length args) a.count in
    let r = a.reached c.requires.words (length args - 1) 0 (omega (arith, some)) in (
      r.0,
      subst (λ (ws : List (Option NetId)). Stands ws (get_or args (length args - 1) 0) r.0)
          (sym c.as_slice-2.ensures) r.1,
    )

pub add_lift-requires-clause-from : goal.add_lift-requires-clause-from
add_lift-requires-clause-from c =
    (c.requires.built.operators c.args.op c.net_of-first.result c.net_of-last.result c.in-Some.from
    (sym c.operator.ensures ∙ c.in-Some.is)).within

pub returns-in-Some-clause-step : goal.returns-in-Some-clause-step
returns-in-Some-clause-step c =
    let m = c.args.making.now in
    let new = c.add_lift.new.making in
    on_ok_weaker c.add_lift.result
    (step_within 1 1 (op_cost c.args.op (length c.args.args.now)) 1 m new
    (tests_cost c.args.op (length c.args.args.now) c.requires.words c.requires.bit) (omega arith))
    c.add_lift.ensures.step

pub returns-in-Some-clause-test : goal.returns-in-Some-clause-test
returns-in-Some-clause-test c =
    let m = c.args.making.now in
    let b = c.args.built.now in
    let e = c.args.expr in
    let op = c.args.op in
    let args = c.args.args.now in
    let first = c.net_of-first.result in
    let last = c.net_of-last.result in
    let is_first = subst (λ (ws : List (Option NetId)). Stands ws (get_or args 0 0) first) c.as_slice.ensures
    c.net_of-first.ensures in
    let is_last = subst (λ (ws : List (Option NetId)). Stands ws (get_or args (length args - 1) 0) last)
    c.as_slice-2.ensures c.net_of-last.ensures in
    let new = c.add_lift.new.making in
    done_two (IsStep 1 1 m new) (IsLiftMade e c.in-Some.from m new) (IsTestMade e op args m new) c.add_lift.result
    (λ step lifted. let names = step.grows.names in
    answer_again e op c.args.index args b m first last c.requires.built is_first is_last c.requires.bit new
    names lifted.words c.in-Some.from (sym c.operator.ensures ∙ c.in-Some.is) lifted)
    c.add_lift.ensures.step c.add_lift.ensures.lift

pub returns-in-Some-clause-shared : goal.returns-in-Some-clause-shared
returns-in-Some-clause-shared c =
    let m = c.args.making.now in
    let b = c.args.built.now in
    let e = c.args.expr in
    let op = c.args.op in
    let args = c.args.args.now in
    let first = c.net_of-first.result in
    let last = c.net_of-last.result in
    let is_first = subst (λ (ws : List (Option NetId)). Stands ws (get_or args 0 0) first) c.as_slice.ensures
    c.net_of-first.ensures in
    let is_last = subst (λ (ws : List (Option NetId)). Stands ws (get_or args (length args - 1) 0) last)
    c.as_slice-2.ensures c.net_of-last.ensures in
    let new = c.add_lift.new.making in
    done_two (IsStep 1 1 m new) (IsLiftMade e c.in-Some.from m new) (IsShared e (Apply op c.args.index args) b b m new)
    c.add_lift.result
    (λ step lifted. let names = step.grows.names in
    answer_shared e op c.args.index args b m first last c.requires.built is_first is_last c.requires.bit new
    names lifted.words c.in-Some.from (sym c.operator.ensures ∙ c.in-Some.is) lifted)
    c.add_lift.ensures.step c.add_lift.ensures.lift

pub last_lift-lift-requires : goal.last_lift-lift-requires
last_lift-lift-requires c =
    subst (λ (ls : List Lift). 0 < length ls) (sym c.as_slice-in-None.ensures)
    (some_lifts c.args.expr c.args.op c.args.args.now c.args.making.now c.add_test.new.making
    c.in_ok-add_test-in-None.ensures.test)

pub returns-in_ok-add_test-in-None-clause-shared : goal.returns-in_ok-add_test-in-None-clause-shared
returns-in_ok-add_test-in-None-clause-shared c =
    let m = c.args.making.now in
    let b = c.args.built.now in
    let e = c.args.expr in
    let op = c.args.op in
    let args = c.args.args.now in
    let first = c.net_of-first.result in
    let last = c.net_of-last.result in
    let is_first = subst (λ (ws : List (Option NetId)). Stands ws (get_or args 0 0) first) c.as_slice.ensures
    c.net_of-first.ensures in
    let is_last = subst (λ (ws : List (Option NetId)). Stands ws (get_or args (length args - 1) 0) last)
    c.as_slice-2.ensures c.net_of-last.ensures in
    let new = c.add_test.new.making in
    let now = c.note_operator.new.self in
    let lift = c.last_lift-lift.result in
    let step = c.in_ok-add_test-in-None.ensures.step in
    let made = c.in_ok-add_test-in-None.ensures.test in
    let at = subst (λ (ls : List Lift). slice_get ls (length ls - 1) ≡ Some lift) c.as_slice-in-None.ensures
    c.last_lift-lift.ensures in
    done_three (operator_in now op first last ≡ Some lift.from)
    ((q : Op) (x y : NetId) → same_key (key_of op first last) (key_of q x y) ≡ false
    → operator_in now q x y ≡ operator_in b q x y)
    ((n : ℕ) → number_in now n ≡ number_in b n) (IsShared e (Apply op c.args.index args) b now m new)
    c.note_operator.result
    (λ here others numbers. answer_noted e op c.args.index args b m first last c.requires.built is_first is_last
    c.requires.bit new step.grows.names made.words now lift (op_cost op (length args)) step made at
    (sym c.operator.ensures ∙ c.in-None.is) here others numbers)
    c.note_operator.ensures.here c.note_operator.ensures.others c.note_operator.ensures.numbers
