use Rattle.std.proofs.Common.{arith}
use Rattle.nor_net.specs.declared.net.Phase.TheVariants.{A}
use Rattle.nor_net.specs.declared.net.Part.TheVariants.{Latch}
use Rattle.std.proofs.Common.{Some}
use Rattle.bit_gates.proofs.Adding.{added_counted}
use Rattle.bit_gates.proofs.Next.{may_take, next_made, source_counted}
use Rattle.bit_gates.proofs.cells.lower_next.Goals as goal

pub gate-requires-clause-inputs_room : goal.gate-requires-clause-inputs_room
gate-requires-clause-inputs_room c =
    let s = source_counted c.args.exprs.now c.args.transfers.now c.args.slave c.args.reset c.in_ok-source.source
    c.args.net.now
    c.add_source.new.net c.in_ok-source.ensures in
    let i = s.input_count in
    let m = (added_counted c.add_source.new.net c.add_latch.new.net
    (Latch A (Some c.in_ok-source.source)) c.in_ok-master.master
    c.in_ok-master.ensures).input_count in
    let r = c.requires.room.inputs_room in
    omega (arith, i, m, r)

pub feed-requires : goal.feed-requires
feed-requires c =
    may_take c.args.exprs.now c.args.transfers.now c.args.slave c.args.reset c.in_ok-source.source
    c.in_ok-master.master
    c.in_ok-negation.negation c.args.net.now c.add_source.new.net c.add_latch.new.net c.gate.new.self
    c.in_ok-source.ensures
    c.in_ok-master.ensures c.in_ok-negation.ensures.ok c.requires.slave

pub returns : goal.returns
returns c =
    next_made c.args.exprs.now c.args.transfers.now c.args.slave c.args.reset c.in_ok-source.source
    c.in_ok-master.master
    c.in_ok-negation.negation c.args.net.now c.add_source.new.net c.add_latch.new.net c.gate.new.self
    c.in_ok-source.ensures
    c.in_ok-master.ensures c.in_ok-negation.ensures.ok c.requires.slave c.feed.new.self c.feed.ensures
