use Rattle.std.proofs.Common.{List, Option, subst, arith}
use Rattle.nor_net.specs.declared.net.NetId.{NetId}
use Rattle.control_nor.specs.Lowering.{Stands}
use Rattle.datapath_steps.proofs.Continuing.{found_there, guard_made, guard_there, guard_within}
use Rattle.datapath_steps.proofs.transfers.add_guard.Goals as goal

pub returns-in-Some : goal.returns-in-Some
returns-in-Some c =
    guard_there c.args.making.now c.args.expr c.in-Some.guard
    (found_there c.args.making.now.guards c.args.expr c.at.result.now c.in-Some.guard
    (guard_within c.args.making.now c.args.expr c.requires.made c.requires.reached) c.at.ensures c.in-Some.is)
    c.requires.made

pub set-requires : goal.set-requires
set-requires c =
    let l = guard_within c.args.making.now c.args.expr c.requires.made c.requires.reached in
    let a = c.in_ok-cast.ensures.continues.grows.guard_count in
    let b = c.in_ok-off.ensures.continues.grows.guard_count in
    omega (arith, l, a, b)

pub returns : goal.returns
returns c =
    guard_made c.args.expr c.net_of-control.result c.in_ok-cast.cast c.in_ok-off.off c.args.making.now
    c.add_cast.new.making c.add_gate.new.making c.set.new.self
    (subst (λ (es : List (Option NetId)). Stands es c.args.expr c.net_of-control.result) c.as_slice.ensures
    c.net_of-control.ensures)
    c.in_ok-cast.ensures c.in_ok-off.ensures c.set.ensures
