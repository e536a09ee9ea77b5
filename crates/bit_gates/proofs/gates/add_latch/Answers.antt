use Rattle.bit_gates.proofs.Adding.{fed_last}
use Rattle.bit_gates.proofs.Groups.{may_take_now}
use Rattle.bit_gates.proofs.gates.add_latch.Goals as goal

pub feed-requires : goal.feed-requires
feed-requires c =
    may_take_now c.args.phase c.args.net.now c.latch.new.self c.in_ok-id.id c.args.source c.in_ok-id.ensures.ok
    c.requires.source

pub returns : goal.returns
returns c =
    fed_last c.args.net.now c.latch.new.self c.feed.new.self c.args.phase c.in_ok-id.id c.args.source
    c.in_ok-id.ensures.ok
    c.feed.ensures
