use Rattle.std.proofs.Common.{◌≡◌, ◌-◌, suc, List, Option, refl, ap, subst, arith}
use Rattle.nor_net.specs.declared.net.NetId.{NetId}
use Rattle.control_nor.specs.Lowering.{Stands}
use Rattle.path_form.specs.declared.path.Lift.{Lift}
use Rattle.datapath_making.specs.declared.making.Making.{Making}
use Rattle.datapath_making.proofs.Tables.{tests_are_tests}
use Rattle.datapath_steps.proofs.Words.{test_made_on, test_step_on}
use Rattle.datapath_steps.proofs.operators.add_test.Goals as goal

pub returns-clause-step : goal.returns-clause-step
returns-clause-step c =
    let h = c.in_ok-from.ensures in
    let lift : Lift = record {
      slice = c.add_organelle.new.making.width - 1;
      from = c.in_ok-from.from;
      control = c.net_of-control.result;
    } in
    let w = ap (λ (m : Making). m.width) h.added in
    let wide = c.requires.wide in
    test_step_on c.args.op c.args.args.now c.args.making.now c.add_organelle.new.making c.in_ok-from.from h
    c.requires.made c.args.expr lift c.requires.entry
    (subst (λ (es : List (Option NetId)). Stands es c.args.expr c.net_of-control.result) c.as_slice.ensures
    c.net_of-control.ensures)
    refl (let s : suc (c.add_organelle.new.making.width - 1) ≡ c.args.making.now.width = omega (arith, w, wide) in s)
    (tests_are_tests h.kind c.args.op h.is_kind c.requires.bit) c.push.new.self c.in_ok-push.ensures.ok

pub returns-clause-test : goal.returns-clause-test
returns-clause-test c =
    let h = c.in_ok-from.ensures in
    let lift : Lift = record {
      slice = c.add_organelle.new.making.width - 1;
      from = c.in_ok-from.from;
      control = c.net_of-control.result;
    } in
    let w = ap (λ (m : Making). m.width) h.added in
    let wide = c.requires.wide in
    test_made_on c.args.op c.args.args.now c.args.making.now c.add_organelle.new.making c.in_ok-from.from h
    c.requires.made c.args.expr lift c.requires.entry
    (subst (λ (es : List (Option NetId)). Stands es c.args.expr c.net_of-control.result) c.as_slice.ensures
    c.net_of-control.ensures)
    refl (let s : suc (c.add_organelle.new.making.width - 1) ≡ c.args.making.now.width = omega (arith, w, wide) in s)
    (tests_are_tests h.kind c.args.op h.is_kind c.requires.bit) c.push.new.self c.in_ok-push.ensures.ok
