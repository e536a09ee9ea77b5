use Rattle.std.proofs.Common.{◌≡◌, ◌<◌, List, Option, subst, arith}
use Rattle.nor_net.specs.declared.net.NetId.{NetId}
use Rattle.control_nor.specs.Lowering.{Stands}
use Rattle.path_form.specs.declared.path.Lift.{Lift}
use Rattle.datapath_steps.proofs.Words.{bit_step}
use Rattle.datapath_steps.proofs.operators.add_bit.Goals as goal

pub returns-clause-step : goal.returns-clause-step
returns-clause-step c =
    let lift : Lift = record {
      slice = c.min-slice.result;
      from = c.net_of-from.result;
      control = c.net_of-control.result;
    } in
    let i = c.requires.index in
    let same : c.min-slice.result ≡ c.args.index = grind (arith, c.min-slice.ensures, i) in
    bit_step c.args.expr c.args.index c.args.arg c.args.making.now lift c.push.new.self c.in_ok-push.ensures.ok
    c.requires.entry
    (subst (λ (es : List (Option NetId)). Stands es c.args.expr c.net_of-control.result) c.as_slice.ensures
    c.net_of-control.ensures)
    (subst (λ (ws : List (Option NetId)). Stands ws c.args.arg c.net_of-from.result) c.as_slice-2.ensures
    c.net_of-from.ensures)
    same (let l : c.min-slice.result < c.args.making.now.width = omega (arith, same, i) in l) c.requires.made
