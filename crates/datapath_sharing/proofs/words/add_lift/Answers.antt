use Rattle.std.proofs.Common.{◌≡◌, ◌-◌, ◌<◌, suc, List, Option, refl, subst, arith}
use Rattle.nor_net.specs.declared.net.NetId.{NetId}
use Rattle.control_nor.specs.Lowering.{Stands}
use Rattle.path_form.specs.declared.path.Lift.{Lift}
use Rattle.datapath_sharing.proofs.Lifting.{lift_made, lift_step}
use Rattle.datapath_sharing.proofs.words.add_lift.Goals as goal

pub returns-clause-step : goal.returns-clause-step
returns-clause-step c =
    let m = c.args.making.now in
    let wide = c.requires.wide in
    let lift : Lift = record { slice = m.width - 1; from = c.args.from; control = c.net_of-control.result } in
    lift_step c.args.expr m lift c.push.new.self c.in_ok-push.ensures.ok c.requires.entry
    (subst (λ (es : List (Option NetId)). Stands es c.args.expr c.net_of-control.result) c.as_slice.ensures
    c.net_of-control.ensures)
    c.requires.from (let l : m.width - 1 < m.width = omega (arith, wide) in l) c.requires.made

pub returns-clause-lift : goal.returns-clause-lift
returns-clause-lift c =
    let m = c.args.making.now in
    let wide = c.requires.wide in
    let lift : Lift = record { slice = m.width - 1; from = c.args.from; control = c.net_of-control.result } in
    lift_made c.args.expr m lift c.push.new.self c.in_ok-push.ensures.ok c.requires.entry
    (subst (λ (es : List (Option NetId)). Stands es c.args.expr c.net_of-control.result) c.as_slice.ensures
    c.net_of-control.ensures)
    c.requires.from (let l : m.width - 1 < m.width = omega (arith, wide) in l) c.requires.made c.args.from refl
    (let t : suc (m.width - 1) ≡ m.width = omega (arith, wide) in t)
